-- Texts on a page and in a buffer, and how long they are.
use Rattle.std.proofs.Common.{◌≡◌, ℕ, ◌+◌, ◌^◌, ◌<◌, ◌≤◌, ltb, List, [], ◌∷◌, ◌++◌, length, take, drop, ℤ, decimal, sym, ap, ◌∙◌, arith, w64, SFits}
use lib.Signed.{mag}
use Rattle.std.specs.Fmt.{signed_decimal}
use Rattle.std.proofs.lemmas.Fmt.{length-decimal-le, length_signed_le}
use Rattle.std.proofs.lemmas.Int.{ints}
use Rattle.std.proofs.lemmas.List.{append_assoc, length-append, length-take-le, take_at, drop_at, drop-drop, length-drop}
use Rattle.std.proofs.lemmas.Bool.{cond-false, le-ltb}
use Rattle.record.specs.Page.{pasted, line, outcome_of}

pub length-line : (word number : List ℕ) → length (line word number) ≡ length word + length number + 1
unfolding line
length-line word number = length-append (word ++ number) (10 ∷ []) ∙ ap (λ k. k + 1) (length-append word number)

-- a page after one line more
pub grown : (page after word number : List ℕ) (k : ℕ) → length number ≤ k → after ≡ page ++ line word number → length after ≤ length page + length word + k + 1
grown page after word number k h e = omega (arith, ap length e, length-append page (line word number), length-line word number, h)

-- past the first question, the room does not matter
pub roomy : (room : ℕ) (bytes : List ℕ) → 96 ≤ room → outcome_of room bytes ≡ outcome_of 96 bytes
roomy room bytes h = cond-false (ltb room 96) _ _ (le-ltb room 96 h)

-- ---- in a lent buffer
length_front : (page : List ℕ) (n : ℕ) (s : List ℕ) → n + length s ≤ length page → length (take n page ++ s) ≡ n + length s
length_front page n s h = length-append (take n page) s ∙ ap (λ k. k + length s) (length-take-le n page (omega arith))

-- one text after another is one text
pub pasted-twice : (page : List ℕ) (n : ℕ) (s t : List ℕ) → n + length s ≤ length page → pasted (pasted page n s) (n + length s) t ≡ pasted page n (s ++ t)
pasted-twice page n s t h =
    let front : List ℕ = take n page ++ s in
    let l : length front ≡ n + length s = length_front page n s h in
    let whole : pasted page n s ≡ front ++ drop (n + length s) page = sym (append_assoc (take n page) s (drop (n + length s) page)) in
    let a : take (n + length s) (pasted page n s) ≡ front = ap (take (n + length s)) whole ∙ take_at front (drop (n + length s) page) (n + length s) l in
    let d : drop (n + length s) (pasted page n s) ≡ drop (n + length s) page = ap (drop (n + length s)) whole ∙ drop_at front (drop (n + length s) page) (n + length s) l in
    let b : drop (n + length s + length t) (pasted page n s) ≡ drop (n + length (s ++ t)) page =
    sym (drop-drop (length t) (n + length s) (pasted page n s)) ∙ ap (drop (length t)) d ∙ drop-drop (length t) (n + length s) page ∙ ap (λ k. drop k page) (omega (arith, length-append s t)) in
    ap (λ x. x ++ (t ++ drop (n + length s + length t) (pasted page n s))) a
    ∙ ap (λ x. front ++ (t ++ x)) b
    ∙ append_assoc (take n page) s (t ++ drop (n + length (s ++ t)) page)
    ∙ ap (λ x. take n page ++ x) (sym (append_assoc s t (drop (n + length (s ++ t)) page)))

pub length-pasted : (page : List ℕ) (n : ℕ) (s : List ℕ) → n + length s ≤ length page → length (pasted page n s) ≡ length page
length-pasted page n s h = omega (arith, length-append (take n page) (s ++ drop (n + length s) page), length-append s (drop (n + length s) page), length-drop (n + length s) page, length-take-le n page (omega arith))

-- a text written after a text
pub further : (page0 page1 page2 : List ℕ) (n m : ℕ) (s t : List ℕ) → n + length s ≤ length page0 → page1 ≡ pasted page0 n s → m ≡ n + length s → page2 ≡ pasted page1 m t → page2 ≡ pasted page0 n (s ++ t)
further page0 page1 page2 n m s t h e f g = g ∙ ap (λ p. pasted p m t) e ∙ ap (λ k. pasted (pasted page0 n s) k t) f ∙ pasted-twice page0 n s t h

-- a line in its three pieces
pub put_as_line : (page0 page1 page2 page3 : List ℕ) (at a b e : ℕ) (word number : List ℕ) → at + length (line word number) ≤ length page0 → page1 ≡ pasted page0 at word → a ≡ at + length word → page2 ≡ pasted page1 a number → b ≡ a + length number → page3 ≡ pasted page2 b (10 ∷ []) → e ≡ b + 1
    → (page3 ≡ pasted page0 at (line word number)) × (e ≡ at + length (line word number))
unfolding line
put_as_line page0 page1 page2 page3 at a b e word number h p1 ea p2 eb p3 ee =
    let l = length-line word number in
    let w : length (word ++ number) ≡ length word + length number = length-append word number in
    let q = further page0 page1 page2 at a word number (omega arith) p1 ea p2 in
    (further page0 page2 page3 at b (word ++ number) (10 ∷ []) (omega arith) q (omega arith) p3, omega arith)

-- ---- how long they are
pub count-line : (k : ℕ) (word : List ℕ) (n : ℕ) → 0 < k → n < 10 ^ k → n < 18446744073709551616 → length (line word (decimal n)) ≤ length word + k + 1
count-line k word n p h f = omega (arith, length-line word (decimal n), length-decimal-le k n p h f)

pub signed-line : (word : List ℕ) (z : ℤ) → SFits w64 z → length (line word (signed_decimal z)) ≤ length word + 21
signed-line word z f =
    let m : mag z < 9223372036854775808 = omega (arith, ints) in
    let k : mag z + 1 < 10 ^ 19 = omega arith in
    omega (arith, length-line word (signed_decimal z), length_signed_le 19 z k m)

-- five texts, each after the one before
pub five : (page p1 p2 p3 p4 p5 : List ℕ) (a b c d e : ℕ) (t1 t2 t3 t4 t5 : List ℕ) → length t1 + length t2 + length t3 + length t4 + length t5 ≤ length page
    → p1 ≡ pasted page 0 t1 → a ≡ 0 + length t1 → p2 ≡ pasted p1 a t2 → b ≡ a + length t2 → p3 ≡ pasted p2 b t3 → c ≡ b + length t3 → p4 ≡ pasted p3 c t4 → d ≡ c + length t4 → p5 ≡ pasted p4 d t5 → e ≡ d + length t5
    → (p5 ≡ pasted page 0 ((((t1 ++ t2) ++ t3) ++ t4) ++ t5)) × (e ≡ length ((((t1 ++ t2) ++ t3) ++ t4) ++ t5))
five page p1 p2 p3 p4 p5 a b c d e t1 t2 t3 t4 t5 h e1 a1 e2 b1 e3 c1 e4 d1 e5 f1 =
    let l2 = length-append t1 t2 in
    let l3 = length-append (t1 ++ t2) t3 in
    let l4 = length-append ((t1 ++ t2) ++ t3) t4 in
    let l5 = length-append (((t1 ++ t2) ++ t3) ++ t4) t5 in
    let q2 = further page p1 p2 0 a t1 t2 (omega arith) e1 a1 e2 in
    let q3 = further page p2 p3 0 b (t1 ++ t2) t3 (omega arith) q2 (omega arith) e3 in
    let q4 = further page p3 p4 0 c ((t1 ++ t2) ++ t3) t4 (omega arith) q3 (omega arith) e4 in
    let q5 = further page p4 p5 0 d (((t1 ++ t2) ++ t3) ++ t4) t5 (omega arith) q4 (omega arith) e5 in
    (q5, omega arith)
