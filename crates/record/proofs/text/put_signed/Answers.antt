use Rattle.std.proofs.Common.{◌≡◌, ℕ, List, [], ◌∷◌, ◌++◌, length, ℤ, pos, negsuc, nat_abs, ◌<ℤ◌, decimal, refl, ap, ◌∙◌, arith, w64, rules}
use Rattle.std.proofs.lemmas.Int.{ints, to_z-of_z}
use Rattle.std.specs.Fmt.{signed_decimal}
use Rattle.record.specs.Page.{pasted}
use Rattle.record.proofs.Pages.{further}
use Rattle.record.proofs.text.put_signed.Goals as goal

below-zero : (z : ℤ) → z <ℤ pos 0 → (45 ∷ []) ++ decimal (nat_abs z) ≡ signed_decimal z
below-zero (pos n) h = absurd (omega (arith, ints))
below-zero (negsuc n) h = refl

pub returns-then-z-lt0 : goal.returns-then-z-lt0
returns-then-z-lt0 c =
    let z : ℤ = c.args.z in
    let page : List ℕ = c.args.buffer.now in
    let below : z <ℤ pos 0 = search rules in
    let m : c.unsigned_abs.result ≡ nat_abs z = c.unsigned_abs.ensures.value ∙ ap nat_abs (to_z-of_z w64 z c.ranges.z) in
    let t : (45 ∷ []) ++ decimal c.unsigned_abs.result ≡ signed_decimal z = ap (λ n. (45 ∷ []) ++ decimal n) m ∙ below-zero z below in
    record {
      page = further page c.put-next.new.buffer _ c.args.at c.put-next.result (45 ∷ []) (decimal c.unsigned_abs.result) (omega (arith, c.requires, ap length t)) c.put-next.ensures.page c.put-next.ensures.end c.put_decimal.ensures.page ∙ ap (pasted page c.args.at) t;
      end = omega (arith, c.put_decimal.ensures.end, c.put-next.ensures.end, ap length t);
    }
