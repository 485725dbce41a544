-- A run, one call further.
use Rattle.std.proofs.Common.{◌≡◌, ℕ, ◌+◌, ◌<◌, List, [], ◌∷◌, ◌++◌, map, length, get_or, take, set, fold, sym, refl, ap, ◌∙◌, subst}
use mathlib.Core.List.Permᴰ
use Rattle.std.proofs.lemmas.List.{map_push, map-set, set-get_or, take_more_set, get_or-map}
use Rattle.std.proofs.lemmas.List.Sums.{fold_push}
use Rattle.readers.specs.Meaning.{Steps, Reading}
use Rattle.sheets.specs.declared.book.Entry.{Entry}
use Rattle.sheets.specs.declared.row.Row.{Row}
use Rattle.sheets.specs.Book.{written, standing_after}
use Rattle.sheets.specs.Runs.{filled, Grown, GrownBy}
use Rattle.sheets.specs.Sheets.{InAnyOrder}
use Rattle.law.specs.declared.asking.Asked.{Asked}
use Rattle.law.specs.Replies.{calls_of, Answer, Run}

-- a call written back at its place
pub calls-kept : (list : List Asked) (i : ℕ) (a : Asked) (d : Asked) → i < length list → a.call ≡ (get_or list i d).call → calls_of (set list i a) ≡ calls_of list
calls-kept list i a d h e =
    map-set (λ (x : Asked). x.call) list i a
    ∙ ap (λ c. set (calls_of list) i c) (e ∙ sym (get_or-map (λ (x : Asked). x.call) list i d d.call h))
    ∙ set-get_or (calls_of list) i d.call

module _ (steps : ℕ → Steps) (answer : ℕ → Reading) where
  run-push : (book : List Entry) (places : List Row) (list : List Asked) (mid after : List Row) (a : Asked) → Run steps answer book places list mid → Answer steps mid a.call a.answer after
      → InAnyOrder after (map (filled answer) (written steps (fold (written steps) book (calls_of list)) a.call)) → Run steps answer book places (list ++ a ∷ []) after
  run-push book places [] mid after a e h o = (after, subst (λ m. Answer steps m a.call a.answer after) (sym e) h, o, refl)
  run-push book places (x ∷ list) mid after a r h o = (r.0, r.1, r.2, run-push (written steps book x.call) r.0 list mid after a r.3 h o)

  standing-push : (list : List Asked) (a : Asked) → standing_after steps (calls_of (list ++ a ∷ [])) ≡ written steps (standing_after steps (calls_of list)) a.call
  standing-push list a = ap (standing_after steps) (map_push (λ (x : Asked). x.call) list a) ∙ fold_push (written steps) [] (calls_of list) a.call

  -- the run so far, and the book and the rows it led to
  pub record Sofar (list : List Asked) (places : List Row) : Type 0 where
    pub run : Run steps answer [] [] list places
    pub grown : Grown answer (standing_after steps (calls_of list)) places

  pub begun : (places : List Row) → places ≡ [] → Sofar [] places
  begun places e = subst (λ l. Sofar [] l) (sym e) (record { run = refl; grown = record { order = Permᴰ.refl []; words = tt } })

  pub further : (list : List Asked) (i : ℕ) (a : Asked) (before after : List Row) → i < length list → Sofar (take i list) before → Answer steps before a.call a.answer after
      → GrownBy steps answer a.call before after → Sofar (take (i + 1) (set list i a)) after
  further list i a before after h s r grows =
      let front : List Asked = take i list in
      let g : Grown answer (written steps (standing_after steps (calls_of front)) a.call) after = grows (standing_after steps (calls_of front)) s.grown in
      subst (λ l. Sofar l after) (sym (take_more_set list i a h))
      (record {
        run = run-push [] [] front before after a s.run r g.order;
        grown = subst (λ b. Grown answer b after) (sym (standing-push front a)) g;
      })
