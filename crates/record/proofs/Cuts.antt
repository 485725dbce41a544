-- How a field is cut off and read.
use Rattle.std.proofs.Common.{◌≡◌, ℕ, ◌+◌, ◌*◌, ◌<◌, ◌≤◌, Bool, true, false, cond, eqb, ltb, List, [], ◌∷◌, length, get_or, take, drop, Ok, Err, Result, sym, refl, ap, ◌∙◌, subst, arith}
use Rattle.std.proofs.lemmas.Bool.{cond-false, le-ltb, eq-eqb, ne_eqb, cond-true}
use Rattle.std.proofs.lemmas.List.{length-drop}
use Rattle.record.specs.declared.fault.Cause.{Cause}
use Rattle.record.specs.declared.fault.Cause.TheVariants.{Short, Length}
use Rattle.record.specs.declared.item.Item.{Item}
use Rattle.record.specs.declared.state.Kind.{Kind}
use Rattle.record.specs.declared.state.State.{State}
use Rattle.record.specs.Fields.{and_then, Cut, cut, next, sized, length_of, item_of, Read, valued, measured, placed, field_at}

pub cut-is : (bs : List ℕ) (n : ℕ) (body rest : List ℕ) → 3 ≤ length bs → n ≡ 256 * get_or bs 1 0 + get_or bs 2 0 → n ≤ length (drop 3 bs) → body ≡ take n (drop 3 bs) → rest ≡ drop n (drop 3 bs)
    → cut bs ≡ Ok (record { tag = get_or bs 0 0; body = body; rest = rest })
cut-is [] n body rest h e l b r = absurd (omega arith)
cut-is (t ∷ []) n body rest h e l b r = absurd (omega arith)
cut-is (t ∷ hi ∷ []) n body rest h e l b r = absurd (omega arith)
cut-is (t ∷ hi ∷ lo ∷ bs) n body rest h e l b r =
    cond-false (ltb (length bs) (256 * hi + lo)) _ _ (le-ltb (length bs) (256 * hi + lo) (subst (λ k. k ≤ length bs) e l))
    ∙ ap (λ k. Ok (record { tag = t; body = take k bs; rest = drop k bs })) (sym e)
    ∙ ap (λ x. Ok (record { tag = t; body = x; rest = drop n bs })) (sym b)
    ∙ ap (λ x. Ok (record { tag = t; body = body; rest = x })) (sym r)

-- what is left is shorter
pub cut-shorter : (bs : List ℕ) (x : Cut) → cut bs ≡ Ok x → length x.rest < length bs
cut-shorter [] x e = absurd (let z : ◌≡◌ {A = ℕ} 0 1 = cc in omega arith)
cut-shorter (t ∷ []) x e = absurd (let z : ◌≡◌ {A = ℕ} 0 1 = cc in omega arith)
cut-shorter (t ∷ hi ∷ []) x e = absurd (let z : ◌≡◌ {A = ℕ} 0 1 = cc in omega arith)
cut-shorter (t ∷ hi ∷ lo ∷ bs) x e =
    let y : Cut = record { tag = t; body = take (256 * hi + lo) bs; rest = drop (256 * hi + lo) bs } in
    let go : (b : Bool) → cond b (Err Short) (Ok y) ≡ Ok x → length x.rest < length (t ∷ hi ∷ lo ∷ bs) =
    λ b. elim b as (λ b. cond b (Err Short) (Ok y) ≡ Ok x → length x.rest < length (t ∷ hi ∷ lo ∷ bs))
    [ true ↦ λ q. absurd (let z : ◌≡◌ {A = ℕ} 0 1 = cc in omega arith) | false ↦ λ q. let p : y ≡ x = cc in subst (λ z. length z.rest < length (t ∷ hi ∷ lo ∷ bs)) p (omega (arith, length-drop (256 * hi + lo) bs)) ] in
    go (ltb (length bs) (256 * hi + lo)) e

-- the first no decides
module _ (s : State) (bytes : List ℕ) where
  pub field-short : (e : Cause) → cut bytes ≡ Err e → field_at s bytes ≡ Err e
  unfolding field_at
  field-short e h = ap (λ q. and_then q (placed s)) h

  module _ (c : Cut) (isCut : cut bytes ≡ Ok c) where
    whole_is : field_at s bytes ≡ placed s c
    unfolding field_at
    whole_is = ap (λ q. and_then q (placed s)) isCut

    pub field-tag : (e : Cause) → next s c.tag ≡ Err e → field_at s bytes ≡ Err e
    field-tag e h = whole_is ∙ ap (λ q. and_then q (measured c)) h

    module _ (k : Kind × State) (isKind : next s c.tag ≡ Ok k) where
      placed-is : field_at s bytes ≡ measured c k
      placed-is = whole_is ∙ ap (λ q. and_then q (measured c)) isKind

      pub field-length : (length c.body ≡ length_of k.0 → ⊥) → field_at s bytes ≡ Err Length
      field-length h =
          let e : sized k.0 c.body ≡ Err Length = cond-false (eqb (length c.body) (length_of k.0)) _ _ (ne_eqb _ _ h) in
          placed-is ∙ ap (λ q. and_then q (valued c k)) e

      module _ (long : length c.body ≡ length_of k.0) where
        measured-is : field_at s bytes ≡ valued c k tt
        measured-is =
            let e : sized k.0 c.body ≡ Ok tt = cond-true (eqb (length c.body) (length_of k.0)) _ _ (eq-eqb _ _ long) in
            placed-is ∙ ap (λ q. and_then q (valued c k)) e

        pub field-value : (e : Cause) → item_of k.0 c.body ≡ Err e → field_at s bytes ≡ Err e
        field-value e h = measured-is ∙ ap (λ q. and_then q (λ i. Ok (record { item = i; state = k.1; rest = c.rest }))) h

        pub field-read : (i : Item) → item_of k.0 c.body ≡ Ok i → field_at s bytes ≡ Ok (record { item = i; state = k.1; rest = c.rest })
        field-read i h = measured-is ∙ ap (λ q. and_then q (λ i. Ok (record { item = i; state = k.1; rest = c.rest }))) h

-- what got a yes
then_ok : {X Y E : Type 0} (q : Result X E) (h : X → Result Y E) (y : Y) → and_then q h ≡ Ok y → (x : X) × (q ≡ Ok x) × (h x ≡ Ok y)
then_ok (Ok x) h y e = (x, refl, e)
then_ok (Err x) h y e = absurd (let z : ◌≡◌ {A = ℕ} 0 1 = cc in omega arith)

-- a field that was read, taken apart
pub record Whole (s : State) (bytes : List ℕ) (f : Read) : Type 0 where
  pub piece : Cut
  pub kind : Kind × State
  pub is_cut : cut bytes ≡ Ok piece
  pub is-kind : next s piece.tag ≡ Ok kind
  pub is-item : item_of (kind).0 piece.body ≡ Ok f.item
  pub is_state : (kind).1 ≡ f.state
  pub is-rest : piece.rest ≡ f.rest

pub field-whole : (s : State) (bytes : List ℕ) (f : Read) → field_at s bytes ≡ Ok f → Whole s bytes f
unfolding field_at
field-whole s bytes f e =
    let a = then_ok (cut bytes) (placed s) f e in
    let b = then_ok (next s a.0.tag) (measured a.0) f a.2 in
    let c = then_ok (sized b.0.0 a.0.body) (valued a.0 b.0) f b.2 in
    let d = then_ok (item_of b.0.0 a.0.body) (λ i. Ok (record { item = i; state = b.0.1; rest = a.0.rest })) f c.2 in
    let g : ◌≡◌ {A = Read} (record { item = d.0; state = b.0.1; rest = a.0.rest }) f = ok_same d.2 in
    record {
      piece = a.0;
      kind = b.0;
      is_cut = a.1;
      is-kind = b.1;
      is-item = d.1 ∙ ap (λ (x : Read). Ok x.item) g;
      is_state = ap (λ (x : Read). x.state) g;
      is-rest = ap (λ (x : Read). x.rest) g;
    }
  where
    ok_same : {x y : Read} → ◌≡◌ {A = Result Read Cause} (Ok x) (Ok y) → x ≡ y
    ok_same q = cc

-- what is left after a field is shorter
pub field-shorter : (s : State) (bytes : List ℕ) (f : Read) → field_at s bytes ≡ Ok f → length f.rest < length bytes
field-shorter s bytes f e = let w = field-whole s bytes f e in subst (λ l. length l < length bytes) w.is-rest (cut-shorter bytes w.piece w.is_cut)
