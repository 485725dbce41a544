use Rattle.readers.specs.Meaning.{Steps}
use Rattle.exact.specs.Value.{integer}
use Rattle.sheets.specs.Sheets.{rows, totals_of}
use Rattle.sheets.specs.Book.{standing_after}
use Rattle.std.proofs.Common.{ℕ}
use Rattle.formulas.proofs.Six.{six}
use Rattle.law.proofs.Near.{kept_holds}
use Rattle.law.proofs.Apart.{book-distinct, along-apart, across-apart}
use Rattle.law.proofs.run_both.Goals as goal

pub returns : goal.returns
returns g c =
    let p = c.run-one.result in
    let q = c.run-other.result in
    let calls = c.args.calls.now in
    let others = c.args.others.now in
    let one : ℕ → Steps = λ w. g.P.Reader.steps c.args.one w in
    let other : ℕ → Steps = λ w. g.Q.Reader.steps c.args.other w in
    let h = kept_holds one (g.P.Reader.answer c.args.one) (g.met.P.Reader.meaning c.args.one) calls (rows p) (totals_of p) c.run-one.ensures.grown p.kept in
    let k = kept_holds other (g.Q.Reader.answer c.args.other) (g.met.Q.Reader.meaning c.args.other) others (rows q) (totals_of q) c.run-other.ensures.grown q.kept in
    let d = book-distinct (rows p) (standing_after one calls) h.order p.differ in
    let d' = book-distinct (rows q) (standing_after other others) k.order q.differ in
    record {
      one = h;
      other = k;
      along = λ same. along-apart one calls other others d d' same (integer (totals_of p).along) (integer (totals_of q).along) h.along k.along;
      across = λ same. across-apart one calls other others d d' same (integer (totals_of p).across) (integer (totals_of q).across) h.across k.across;
      functions = six;
    }
