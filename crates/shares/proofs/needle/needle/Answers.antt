use Rattle.std.proofs.Common.{◌≡◌, ℕ, ◌^◌, ◌<◌, Ok, Err, sym, ap, ◌∙◌, subst, arith}
use lib.Ieee.{Float}
use Rattle.std.proofs.lemmas.Result.{err_from_is_err_and}
use Rattle.shares.specs.Needle.{needle_of, Points}
use Rattle.shares.proofs.Limits.{points}
use Rattle.shares.proofs.needle.needle.Given as given
use Rattle.shares.proofs.needle.needle.Goals as goal

paired : (p : Float × Float) (a b : Float) → p.0 ≡ a → p.1 ≡ b → ◌≡◌ {A = Float × Float} p (a, b)
paired p a b e f i = (e i, f i)

near : (g : given.Over) (r : g.row.R.Denot) (w : ℕ) (a : _) → w < 2 ^ 32 → a ≡ needle_of (g.R.Reader.answer r w) → Points (g.R.Reader.steps r w) a
near g r w a h e = subst (Points (g.R.Reader.steps r w)) (sym e) (points (g.R.Reader.steps r w) (g.R.Reader.answer r w) (g.met.R.Reader.meaning r w h))

pub returns-in_err-k : goal.returns-in_err-k
unfolding needle_of
returns-in_err-k g c =
    let p = err_from_is_err_and c.from_residual.result c.from_residual.ensures.1 in
    let e : c.from_residual.result ≡ needle_of (g.R.Reader.answer c.args.reader.now c.args.word) = p.1 ∙ ap Err p.2 ∙ ap needle_of c.in_err-k.ensures in
    record { is = e; near = near g c.args.reader.now c.args.word c.from_residual.result (omega arith) e }

pub returns : goal.returns
unfolding needle_of
returns g c =
    let s = c.sine_and_cosine.ensures.sine_is in
    let t = c.sine_and_cosine.ensures.cosine_is in
    let e : Ok c.sine_and_cosine.result ≡ needle_of (g.R.Reader.answer c.args.reader.now c.args.word) = ap Ok (paired c.sine_and_cosine.result _ _ s t) ∙ ap needle_of c.in_ok-k.ensures in
    record { is = e; near = near g c.args.reader.now c.args.word (Ok c.sine_and_cosine.result) (omega arith) e }
