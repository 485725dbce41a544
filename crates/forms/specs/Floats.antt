-- f64 and f32 keep the promise.
use Rattle.std.specs.Prelude.{T, Float}
use Rattle.std.proofs.Common.{lit≤}
use Rattle.std.specs.Float.Ieee.{mul, add, size}
use Rattle.std.specs.Float.{round_to_format, Format, binary32, binary64}
use Rattle.exact.specs.Fraction.{Fraction, ◌⊕◌, ◌⊗◌, whole, tiny, leq}
use Rattle.exact.specs.Value.{value_of, Good, Held, mean_of, given, Sized, Near}
use Rattle.exact.specs.Rounded.{error_of, in_range}
use Rattle.exact.proofs.Order.{by-test, within-⊑, triangle, within-⊕, within-refl, ≈-refl, size-⊕, size-⊗, size-near}
use Rattle.exact.proofs.Rounding.{rounded-near, add-rounded, mul-rounded, nearest_in_rounded}
use Rattle.forms.specs.Promise.{Promise}
use Rattle.forms.specs.Meaning.{held, near-good, given_is}

fmla-near : (f : Format) (x y z : Float) (A B C : Fraction) → Held x A → Held y B → Held z C
    → T (in_range f (A ⊗ B)) → T (in_range f ((A ⊗ B ⊕ error_of f (A ⊗ B)) ⊕ C))
    → Good (add f (mul f x y) z) (value_of x ⊗ value_of y ⊕ value_of z) (error_of f ((A ⊗ B ⊕ error_of f (A ⊗ B)) ⊕ C) ⊕ (error_of f (A ⊗ B) ⊕ whole 0))
fmla-near f x y z A B C h k l s t =
    let p = rounded-near f (mul f x y) (value_of x ⊗ value_of y) (A ⊗ B) (mul-rounded f x y h.fin k.fin) (size-⊗ h.size k.size) s in
    let q = rounded-near f (add f (mul f x y) z) (value_of (mul f x y) ⊕ value_of z) ((A ⊗ B ⊕ error_of f (A ⊗ B)) ⊕ C) (add-rounded f (mul f x y) z p.fin l.fin) (size-⊕ (size-near p.near (size-⊗ h.size k.size)) l.size) t in
    record { fin = q.fin; near = triangle q.near (within-⊕ p.near (within-refl (≈-refl (value_of z)))) }

module _ (f : Format) (e : Fraction) where
  mla_form : (x y z : Float) → T (in_range f (whole 2 ⊗ whole 16)) → T (in_range f ((whole 2 ⊗ whole 16 ⊕ error_of f (whole 2 ⊗ whole 16)) ⊕ whole 16)) → T (leq (error_of f ((whole 2 ⊗ whole 16 ⊕ error_of f (whole 2 ⊗ whole 16)) ⊕ whole 16) ⊕ (error_of f (whole 2 ⊗ whole 16) ⊕ whole 0)) e)
      → Sized (mean_of x) (whole 2) → Sized (mean_of y) (whole 16) → Sized (mean_of z) (whole 16) → Near (mean_of (add f (mul f x y) z)) (given (mean_of x) ⊗ given (mean_of y) ⊕ given (mean_of z)) e
  mla_form x y z s t u a b c =
      let g = fmla-near f x y z (whole 2) (whole 16) (whole 16) (held x (whole 2) a) (held y (whole 16) b) (held z (whole 16) c) s t in
      rw (given_is x, given_is y, given_is z) (near-good (add f (mul f x y) z) (value_of x ⊗ value_of y ⊕ value_of z) e (record { fin = g.fin; near = within-⊑ (by-test u) g.near }))

  mul_form : (x y : Float) → T (in_range f (whole 2 ⊗ whole 2)) → T (leq (error_of f (whole 2 ⊗ whole 2)) e) → Sized (mean_of x) (whole 2) → Sized (mean_of y) (whole 2) → Near (mean_of (mul f x y)) (given (mean_of x) ⊗ given (mean_of y)) e
  mul_form x y i t a b =
      let p = held x (whole 2) a in
      let q = held y (whole 2) b in
      let g = rounded-near f (mul f x y) (value_of x ⊗ value_of y) (whole 2 ⊗ whole 2) (mul-rounded f x y p.fin q.fin) (size-⊗ p.size q.size) i in
      rw (given_is x, given_is y) (near-good (mul f x y) (value_of x ⊗ value_of y) e (record { fin = g.fin; near = within-⊑ (by-test t) g.near }))

  make_form : (x : Float) → T (in_range f (whole 16)) → T (leq (error_of f (whole 16)) e) → Sized (mean_of x) (whole 16) → Near (mean_of (round_to_format f x)) (value_of x) e
  make_form x i t h =
      let p = held x (whole 16) h in
      let g = rounded-near f (round_to_format f x) (value_of x) (whole 16) (nearest_in_rounded f x p.fin) p.size i in
      near-good (round_to_format f x) (value_of x) e (record { fin = g.fin; near = within-⊑ (by-test t) g.near })

itself : (x : Float) (b : Fraction) → Sized (mean_of x) b → Near (mean_of x) (value_of x) (tiny 47)
unfolding leq
itself x b h = near-good x (value_of x) (tiny 47) (record { fin = (held x b h).fin; near = within-⊑ (by-test tt) (within-refl (≈-refl (value_of x))) })

pub promise64 : Promise mean_of 47 (λ a b c. add binary64 (mul binary64 a b) c) (mul binary64) (λ x. x)
unfolding size leq
promise64 = record {
  enough = lit≤ tt;
  mla_near = λ a b c. mla_form binary64 (tiny 47) a b c tt tt tt;
  product_near = λ a b. mul_form binary64 (tiny 47) a b tt tt;
  made_near = λ x. itself x (whole 16);
}

pub promise32 : Promise mean_of 18 (λ a b c. add binary32 (mul binary32 a b) c) (mul binary32) (round_to_format binary32)
unfolding size leq
promise32 = record {
  enough = lit≤ tt;
  mla_near = λ a b c. mla_form binary32 (tiny 18) a b c tt tt tt;
  product_near = λ a b. mul_form binary32 (tiny 18) a b tt tt;
  made_near = λ x. make_form binary32 (tiny 18) x tt tt;
}
