use Rattle.std.proofs.Common.{◌≡◌, ℕ, ◌+◌, ◌<◌, ◌≤◌, List, length, ℤ, codes, decimal, ap, ◌∙◌, arith, w64}
use Rattle.std.specs.Fmt.{signed_decimal}
use Rattle.std.proofs.lemmas.Int.{to_z-of_z}
use Rattle.record.specs.Fields.{edition_number}
use Rattle.record.specs.Page.{pasted, line, lines}
use Rattle.record.proofs.Pages.{count-line, signed-line, five}
use Rattle.record.proofs.report.write_lines.Goals as goal

edition-line : (n : ℕ) → n < 256 → length (line (codes "edition ") (decimal n)) ≤ 12
edition-line n h = count-line 3 (codes "edition ") n (omega arith) (omega arith) (omega arith)

rows-line : (n : ℕ) → n < 65536 → length (line (codes "rows ") (decimal n)) ≤ 11
rows-line n h = count-line 5 (codes "rows ") n (omega arith) (omega arith) (omega arith)

speed-line : (n : ℕ) → n < 4294967296 → length (line (codes "speed ") (decimal n)) ≤ 17
speed-line n h = count-line 10 (codes "speed ") n (omega arith) (omega arith) (omega arith)

pub put_line-a-requires : goal.put_line-a-requires
put_line-a-requires c = omega (arith, edition-line c.number.result (omega arith))

pub put_line-b-requires : goal.put_line-b-requires
put_line-b-requires c = omega (arith, edition-line c.number.result (omega arith), rows-line c.args.rows (omega arith), c.put_line-a.ensures.end)

pub put_line-c-requires : goal.put_line-c-requires
put_line-c-requires c = omega (arith, edition-line c.number.result (omega arith), rows-line c.args.rows (omega arith), speed-line c.args.speed (omega arith), c.put_line-a.ensures.end, c.put_line-b.ensures.end)

same_size : (word : List ℕ) (z w : ℤ) → w ≡ z → length (line word (signed_decimal w)) ≡ length (line word (signed_decimal z))
same_size word z w e = ap (λ x. length (line word (signed_decimal x))) e

pub put_signed_line-d-requires : goal.put_signed_line-d-requires
put_signed_line-d-requires c =
    omega (arith, edition-line c.number.result (omega arith), rows-line c.args.rows (omega arith), speed-line c.args.speed (omega arith), signed-line (codes "along ") c.args.along c.ranges.along, same_size (codes "along ") c.args.along _ (to_z-of_z w64 c.args.along c.ranges.along), c.put_line-a.ensures.end, c.put_line-b.ensures.end, c.put_line-c.ensures.end)

pub put_signed_line-requires : goal.put_signed_line-requires
put_signed_line-requires c =
    omega (arith, edition-line c.number.result (omega arith), rows-line c.args.rows (omega arith), speed-line c.args.speed (omega arith), signed-line (codes "along ") c.args.along c.ranges.along, signed-line (codes "across ") c.args.across c.ranges.across, same_size (codes "along ") c.args.along _ (to_z-of_z w64 c.args.along c.ranges.along), same_size (codes "across ") c.args.across _ (to_z-of_z w64 c.args.across c.ranges.across), c.put_line-a.ensures.end, c.put_line-b.ensures.end, c.put_line-c.ensures.end, c.put_signed_line-d.ensures.end)

pub returns : goal.returns
unfolding lines
returns c =
    let n : c.number.result ≡ edition_number c.args.edition = c.number.ensures in
    let ea = to_z-of_z w64 c.args.along c.ranges.along in
    let eb = to_z-of_z w64 c.args.across c.ranges.across in
    let r = five c.args.buffer.now c.put_line-a.new.buffer c.put_line-b.new.buffer c.put_line-c.new.buffer c.put_signed_line-d.new.buffer _ c.put_line-a.result c.put_line-b.result c.put_line-c.result c.put_signed_line-d.result _
    (line (codes "edition ") (decimal (edition_number c.args.edition))) (line (codes "rows ") (decimal c.args.rows)) (line (codes "speed ") (decimal c.args.speed)) (line (codes "along ") (signed_decimal c.args.along)) (line (codes "across ") (signed_decimal c.args.across))
    (omega (arith, ap (λ k. length (line (codes "edition ") (decimal k))) n, edition-line c.number.result (omega arith), rows-line c.args.rows (omega arith), speed-line c.args.speed (omega arith), signed-line (codes "along ") c.args.along c.ranges.along, signed-line (codes "across ") c.args.across c.ranges.across, c.requires))
    (c.put_line-a.ensures.page ∙ ap (λ k. pasted c.args.buffer.now 0 (line (codes "edition ") (decimal k))) n)
    (c.put_line-a.ensures.end ∙ ap (λ k. 0 + length (line (codes "edition ") (decimal k))) n)
    c.put_line-b.ensures.page c.put_line-b.ensures.end c.put_line-c.ensures.page c.put_line-c.ensures.end
    (c.put_signed_line-d.ensures.page ∙ ap (λ z. pasted c.put_line-c.new.buffer c.put_line-c.result (line (codes "along ") (signed_decimal z))) ea)
    (c.put_signed_line-d.ensures.end ∙ ap (λ z. c.put_line-c.result + length (line (codes "along ") (signed_decimal z))) ea)
    (c.put_signed_line.ensures.page ∙ ap (λ z. pasted c.put_signed_line-d.new.buffer c.put_signed_line-d.result (line (codes "across ") (signed_decimal z))) eb)
    (c.put_signed_line.ensures.end ∙ ap (λ z. c.put_signed_line-d.result + length (line (codes "across ") (signed_decimal z))) eb) in
    record { page = r.0; end = r.1 }
