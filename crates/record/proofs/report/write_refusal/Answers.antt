use Rattle.std.proofs.Common.{ℕ, ◌<◌, ◌≤◌, [], ◌∷◌, length, codes, decimal, arith}
use Rattle.std.proofs.lemmas.Fmt.{length-decimal-le}
use Rattle.record.specs.Page.{refusal}
use Rattle.record.proofs.Pages.{five}
use Rattle.record.proofs.report.write_refusal.Goals as goal

three : (n : ℕ) → n < 256 → length (decimal n) ≤ 3
three n h = length-decimal-le 3 n (omega arith) (omega arith) (omega arith)

twenty : (n : ℕ) → n < 18446744073709551616 → length (decimal n) ≤ 20
twenty n h = length-decimal-le 20 n (omega arith) (omega arith) (omega arith)

pub put_decimal-b-requires : goal.put_decimal-b-requires
put_decimal-b-requires c = omega (arith, three c.args.number (omega arith), c.put-a.ensures.end)

pub put-c-requires : goal.put-c-requires
put-c-requires c = omega (arith, three c.args.number (omega arith), c.put-a.ensures.end, c.put_decimal-b.ensures.end)

pub put_decimal-d-requires : goal.put_decimal-d-requires
put_decimal-d-requires c = omega (arith, three c.args.number (omega arith), twenty c.args.offset (omega arith), c.put-a.ensures.end, c.put_decimal-b.ensures.end, c.put-c.ensures.end)

pub put-requires : goal.put-requires
put-requires c = omega (arith, three c.args.number (omega arith), twenty c.args.offset (omega arith), c.put-a.ensures.end, c.put_decimal-b.ensures.end, c.put-c.ensures.end, c.put_decimal-d.ensures.end)

pub returns : goal.returns
unfolding refusal
returns c =
    let r = five c.args.buffer.now c.put-a.new.buffer c.put_decimal-b.new.buffer c.put-c.new.buffer c.put_decimal-d.new.buffer _ c.put-a.result c.put_decimal-b.result c.put-c.result c.put_decimal-d.result _ (codes "refused ") (decimal c.args.number) (codes " at ") (decimal c.args.offset) (10 ∷ [])
    (omega (arith, three c.args.number (omega arith), twenty c.args.offset (omega arith), c.requires))
    c.put-a.ensures.page c.put-a.ensures.end c.put_decimal-b.ensures.page c.put_decimal-b.ensures.end c.put-c.ensures.page c.put-c.ensures.end c.put_decimal-d.ensures.page c.put_decimal-d.ensures.end c.put.ensures.page c.put.ensures.end in
    record { page = r.0; end = r.1 }
