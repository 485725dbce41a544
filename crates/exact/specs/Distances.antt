-- The laws of fractions, their order, sizes and distances, as statements.
use Rattle.std.specs.Prelude.{◌⊎◌}
use Rattle.exact.specs.Fraction.{Fraction, ◌≈◌, ◌⊑◌, ◌⊕◌, ◌⊗◌, ◌⊖◌, neg, whole, abs, Size, Within}

-- sums and products in any order, 0 and 1, and products of sums
pub record SumsAndProducts : Type 0 where
  pub add_comm : (a b : Fraction) → a ⊕ b ≈ b ⊕ a
  pub add_assoc : (a b c : Fraction) → (a ⊕ b) ⊕ c ≈ a ⊕ (b ⊕ c)
  pub add-zero : (a : Fraction) → a ⊕ whole 0 ≈ a
  pub add-neg : (a : Fraction) → a ⊕ neg a ≈ whole 0
  pub mul_comm : (a b : Fraction) → a ⊗ b ≈ b ⊗ a
  pub mul_assoc : (a b c : Fraction) → (a ⊗ b) ⊗ c ≈ a ⊗ (b ⊗ c)
  pub mul-one : (a : Fraction) → a ⊗ whole 1 ≈ a
  pub distrib : (a b c : Fraction) → (a ⊕ b) ⊗ c ≈ a ⊗ c ⊕ b ⊗ c

-- equality is one, and sums, products and signs keep it
pub record Equality : Type 0 where
  pub same : (a : Fraction) → a ≈ a
  pub turned : (a b : Fraction) → a ≈ b → b ≈ a
  pub joined : (a b c : Fraction) → a ≈ b → b ≈ c → a ≈ c
  pub sums : (a b c d : Fraction) → a ≈ b → c ≈ d → a ⊕ c ≈ b ⊕ d
  pub products : (a b c d : Fraction) → a ≈ b → c ≈ d → a ⊗ c ≈ b ⊗ d
  pub signs : (a b : Fraction) → a ≈ b → neg a ≈ neg b

-- the order is one, total, and sums and products by positive numbers keep it
pub record Ordered : Type 0 where
  pub same : (a b : Fraction) → a ≈ b → a ⊑ b
  pub joined : (a b c : Fraction) → a ⊑ b → b ⊑ c → a ⊑ c
  pub both : (a b : Fraction) → a ⊑ b → b ⊑ a → a ≈ b
  pub either : (a b : Fraction) → (a ⊑ b) ⊎ (b ⊑ a)
  pub sums : (a b c d : Fraction) → a ⊑ b → c ⊑ d → a ⊕ c ⊑ b ⊕ d
  pub products : (a b c : Fraction) → whole 0 ⊑ c → a ⊑ b → a ⊗ c ⊑ b ⊗ c
  pub signs : (a b : Fraction) → a ⊑ b → neg b ⊑ neg a

-- from a to b and on to c
abbrev pub Triangle : Type 0
Triangle = (a b c x y : Fraction) → Within a b x → Within b c y → Within a c (x ⊕ y)

-- distances of sums
abbrev pub SumsWithin : Type 0
SumsWithin = (a b c d x y : Fraction) → Within a b x → Within c d y → Within (a ⊕ c) (b ⊕ d) (x ⊕ y)

-- sizes of sums
abbrev pub SumsSized : Type 0
SumsSized = (a b c d : Fraction) → Size a c → Size b d → Size (a ⊕ b) (c ⊕ d)

-- distances of products
abbrev pub ProductsWithin : Type 0
ProductsWithin = (a b c d x y A B : Fraction) → Within a b x → Within c d y → Size b A → Size c B → Within (a ⊗ c) (b ⊗ d) (x ⊗ B ⊕ y ⊗ A)

-- sizes of products
abbrev pub ProductsSized : Type 0
ProductsSized = (a b c d : Fraction) → Size a c → Size b d → Size (a ⊗ b) (c ⊗ d)

-- both sides times c
abbrev pub ScaledWithin : Type 0
ScaledWithin = (a b c x C : Fraction) → Within a b x → Size c C → Within (a ⊗ c) (b ⊗ c) (x ⊗ C)

-- a larger bound holds too
abbrev pub Wider : Type 0
Wider = (a b c d : Fraction) → c ⊑ d → (Within a b c → Within a b d) × (Size a c → Size a d)

-- a change of sign on both sides
abbrev pub SignsWithin : Type 0
SignsWithin = (a b c : Fraction) → (Within a b c → Within (neg a) (neg b) c) × (Size a c → Size (neg a) c)

-- distances go both ways
abbrev pub TurnedWithin : Type 0
TurnedWithin = (a b c : Fraction) → Within a b c → Within b a c

-- equal fractions are as near
abbrev pub EqualWithin : Type 0
EqualWithin = (a b c d e : Fraction) → a ≈ b → c ≈ d → (Within a c e → Within b d e) × (Size a e → Size b e)

-- what is near b is hardly larger than b
abbrev pub SizeNear : Type 0
SizeNear = (a b c d : Fraction) → Within a b c → Size b d → Size a (d ⊕ c)

-- a distance is the size of the difference
abbrev pub WithinIsSize : Type 0
WithinIsSize = (a b c : Fraction) → (Within a b c → Size (a ⊖ b) c) × (Size (a ⊖ b) c → Within a b c)

-- the absolute value is the least bound of the size
abbrev pub LeastBound : Type 0
LeastBound = (a : Fraction) → Size a (abs a) × ((c : Fraction) → Size a c → abs a ⊑ c)
