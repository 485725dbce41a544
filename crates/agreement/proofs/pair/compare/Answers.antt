use Rattle.std.proofs.Common.{◌≡◌, ℕ, List, Option, ◌∙◌, subst}
use Rattle.readers.specs.Meaning.{Steps}
use Rattle.sheets.specs.declared.book.Call.{Call}
use Rattle.sheets.specs.declared.totals.Totals.{Totals}
use Rattle.record.specs.declared.edition.Edition.{Edition}
use Rattle.record.specs.declared.edition.Mount.{Mount}
use Rattle.record.specs.Record.{steps_under, edition_steps}
use Rattle.agreement.specs.Compared.{Compared}
use Rattle.agreement.proofs.pair.compare.Goals as goal

-- by equal meanings and equal calls
alike : (one one' other other' : ℕ → Steps) (calls calls' others others' : List Call) (a b : Totals) → one ≡ one' → calls ≡ calls' → other ≡ other' → others ≡ others' → Compared one calls other others a b → Compared one' calls' other' others' a b
alike one one' other other' calls calls' others others' a b p q r s h =
    subst (λ z. Compared one' calls' other' z a b) s (subst (λ z. Compared one' calls' z others a b) r (subst (λ z. Compared one' z other others a b) q (subst (λ z. Compared z calls other others a b) p h)))

-- what equal editions and mounts mean
meant : (e e' : Edition) (m m' : Option Mount) → e ≡ e' → m ≡ m' → ◌≡◌ {A = ℕ → Steps} (steps_under m (edition_steps e)) (steps_under m' (edition_steps e'))
meant e e' m m' p q i = steps_under (q i) (edition_steps (p i))

pub returns : goal.returns
returns c =
    alike _ _ _ _ _ _ _ _ c.totals_over.result.one c.totals_over.result.other (meant _ _ _ _ c.of.ensures.edition c.of.ensures.mount) (c.as_slice.ensures.value ∙ c.in_ok-calls.ensures) (meant _ _ _ _ c.of-2.ensures.edition c.of-2.ensures.mount) (c.as_slice-2.ensures.value ∙ c.in_ok-others.ensures) c.totals_over.ensures
