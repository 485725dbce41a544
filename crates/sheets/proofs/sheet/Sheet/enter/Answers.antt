use Rattle.std.proofs.Common.{◌≡◌, ℕ, ◌^◌, ◌<◌, ◌≤◌, false, length, Some, Ok, sym, ap, ◌∙◌, arith}
use lib.Ieee.{Float}
use Rattle.exact.specs.Fraction.{Fraction}
use Rattle.std.proofs.lemmas.List.{length-map}
use Rattle.std.proofs.lemmas.Bool.{eqb-true, eqb-false}
use Rattle.sheets.specs.declared.row.Row.{Row}
use Rattle.sheets.specs.Rows.{samples, among}
use Rattle.sheets.proofs.Sheets.{kept, has-angle, place-among, enter-taken, enter-full, enter-ok, distinct_more}
use Rattle.sheets.proofs.sheet.Sheet.enter.Given as given
use Rattle.sheets.proofs.sheet.Sheet.enter.Goals as goal

angled : (g : given.Over) (r : g.row.R.Denot) (w : ℕ) (x : ℕ × Float) → w < 2 ^ 32 → Ok x ≡ g.R.Reader.answer r w → (u : Fraction) × (g.R.Reader.steps r w ≡ Some u)
angled g r w x h e = has-angle (g.R.Reader.steps r w) (g.R.Reader.answer r w) x (g.met.R.Reader.meaning r w h) e

pub returns-then-is_some-clause-answer : goal.returns-then-is_some-clause-answer
returns-then-is_some-clause-answer g c =
    let s = c.args.self.now in
    let a = angled g s.reader c.args.entry.word (c.in_ok-k.k, c.in_ok-k.y) (omega arith) c.in_ok-k.ensures in
    enter-taken _ a.0 a.1 (samples s.table.rows) c.args.entry.sample (sym (c.if-is_some.ensures ∙ place-among c.args.entry.sample s.table.rows c.place.result c.place.ensures))

pub returns-then-is_full-clause-answer : goal.returns-then-is_full-clause-answer
returns-then-is_full-clause-answer g c =
    let s = c.args.self.now in
    let a = angled g s.reader c.args.entry.word (c.in_ok-k.k, c.in_ok-k.y) (omega arith) c.in_ok-k.ensures in
    let l : 256 ≤ length (samples s.table.rows) = omega (arith, eqb-true _ 256 (sym c.if-is_full.ensures), length-map s.table.rows (λ (r : Row). r.sample)) in
    enter-full _ a.0 a.1 (samples s.table.rows) c.args.entry.sample (sym (c.if-is_some.ensures ∙ place-among c.args.entry.sample s.table.rows c.place.result c.place.ensures)) l

pub invariant_of-self-clause-differ : goal.invariant_of-self-clause-differ
invariant_of-self-clause-differ g c =
    let s = c.args.self.now in
    let n : among c.args.entry.sample (samples s.table.rows) ≡ false = sym (c.if-is_some.ensures ∙ place-among c.args.entry.sample s.table.rows c.place.result c.place.ensures) in
    distinct_more s.table.rows c.push.new.self.rows c.new.result (ap (λ l. l.rows) c.push.ensures) s.differ (ap (λ (r : Row). among r.sample (samples s.table.rows)) c.new.ensures ∙ n)

pub returns-clause-answer : goal.returns-clause-answer
returns-clause-answer g c =
    let s = c.args.self.now in
    let a = angled g s.reader c.args.entry.word (c.in_ok-k.k, c.in_ok-k.y) (omega arith) c.in_ok-k.ensures in
    let l : length (samples s.table.rows) < 256 = omega (arith, s.within, eqb-false _ 256 (sym c.if-is_full.ensures), length-map s.table.rows (λ (r : Row). r.sample)) in
    enter-ok _ a.0 a.1 (samples s.table.rows) c.args.entry.sample (sym (c.if-is_some.ensures ∙ place-among c.args.entry.sample s.table.rows c.place.result c.place.ensures)) l

pub invariant_of-self-clause-kept : goal.invariant_of-self-clause-kept
invariant_of-self-clause-kept g c = kept _ _ c.push.ensures
