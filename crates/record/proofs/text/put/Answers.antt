use Rattle.std.proofs.Common.{◌≡◌, ℕ, List, ◌++◌, length, take, refl, ap, ◌∙◌, arith}
use Rattle.std.proofs.lemmas.List.{drop-drop}
use borrow.Rule.Slice.PartMut.{put_mid}
use Rattle.record.specs.Page.{pasted}
use Rattle.record.proofs.text.put.Goals as goal

put_is : (page text part : List ℕ) (n k : ℕ) → part ≡ text → k ≡ length text → put_mid n k page part ≡ pasted page n text
put_is page text part n k e f = ap (λ p. put_mid n k page p) e ∙ ap (λ k. put_mid n k page text) f ∙ ap (λ d. take n page ++ (text ++ d)) (drop-drop (length text) n page)

pub returns : goal.returns
returns c = record { page = put_is c.args.buffer.now c.args.text.now c.copy_from_slice.new.self c.args.at _ c.copy_from_slice.ensures.after (omega arith); end = refl }
