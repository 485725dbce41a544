use Rattle.std.proofs.Common.{◌≡◌, ℕ, List, length, Ok, Err, Result, sym, refl, ap, ◌∙◌, subst, w64, to_z, of_z, rules}
use Rattle.std.proofs.lemmas.Result.{err_from_is_err_and}
use Rattle.std.proofs.lemmas.Int.{to_z-of_z}
use Rattle.record.specs.declared.fault.RecordFault.{RecordFault}
use Rattle.record.specs.declared.tally.Tally.{Tally}
use Rattle.record.specs.Page.{pasted, lines, report_text, outcome_of, Reported}
use Rattle.record.proofs.Outcomes.{outcome-means}
use Rattle.record.proofs.Pages.{roomy}
use Rattle.record.proofs.report.report.Goals as goal

refused : (o : Result Tally RecordFault) (f e : RecordFault) (page : List ℕ) (r : Result ℕ RecordFault) → o ≡ Err f → r ≡ Err e → e ≡ f → Reported o r page page
refused o f e page r p q s = subst (λ z. Reported z r page page) (sym p) (subst (λ z. Reported (Err f) z page page) (sym q) (s, refl))

written : (o : Result Tally RecordFault) (t : Tally) (n : ℕ) (page after text : List ℕ) → o ≡ Ok t → text ≡ report_text t → n ≡ length text → after ≡ pasted page 0 text → Reported o (Ok n) page after
written o t n page after text p e k a = subst (λ z. Reported z (Ok n) page after) (sym p) (k ∙ ap length e, a ∙ ap (pasted page 0) e)

pub returns-in_err-tally : goal.returns-in_err-tally
returns-in_err-tally c =
    let p = err_from_is_err_and c.from_residual.result c.from_residual.ensures.1 in
    let bytes : List ℕ = c.args.bytes.now in
    let room : ℕ = length c.args.buffer.now in
    record {
      outcome = refused (outcome_of room bytes) c.in_err-tally.field-0.0 p.0 c.args.buffer.now c.from_residual.result (roomy room bytes c.if-buffer-lt-ROOM.false ∙ sym c.in_err-tally.ensures.is) p.1 p.2;
      means = outcome-means room bytes (λ i. (c.type_inv.bytes i).fits);
    }

pub returns : goal.returns
returns c =
    let bytes : List ℕ = c.args.bytes.now in
    let room : ℕ = length c.args.buffer.now in
    let t : Tally = c.in_ok-tally.tally in
    record {
      outcome = written (outcome_of room bytes) t c.write_lines.result c.args.buffer.now c.write_lines.new.buffer _ (roomy room bytes c.if-buffer-lt-ROOM.false ∙ sym c.in_ok-tally.ensures.is)
          (ap (λ z. lines t.edition t.rows t.totals.speed z (to_z w64 (of_z w64 t.totals.across))) (to_z-of_z w64 t.totals.along (search rules)) ∙ ap (lines t.edition t.rows t.totals.speed t.totals.along) (to_z-of_z w64 t.totals.across (search rules)))
          c.write_lines.ensures.end c.write_lines.ensures.page;
      means = outcome-means room bytes (λ i. (c.type_inv.bytes i).fits);
    }
