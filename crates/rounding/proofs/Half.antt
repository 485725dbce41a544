-- Half up, with variables for the powers of two.
use Rattle.std.proofs.Common.{◌≡◌, ℕ, suc, ◌+◌, ◌*◌, ◌/◌, ◌<◌, ◌≤◌, ap, ◌∙◌, le_refl, mul-le-mul_right, zero-lt-suc, div-lt_iff_lt-mul, lt_of_mul-lt-mul_right, mul-pos, div-mul-le_self, arith}
use lib.Ieee.Nearest.{div_same}
use Rattle.std.specs.Float.{ratio_round_half_up}

-- r is q, if each times d is below one more of the other
pinned : (r q d : ℕ) → r * d < suc q * d → q * d < suc r * d → r ≡ q
pinned r q d a b =
    let x : r < suc q = lt_of_mul-lt-mul_right d a in
    let y : q < suc r = lt_of_mul-lt-mul_right d b in
    omega arith

pub half-same : (a b c d : ℕ) → 0 < b → 0 < d → a * d ≡ c * b → ratio_round_half_up a b ≡ ratio_round_half_up c d
half-same a b c d B D e = div_same (2 * a + b) (2 * b) (2 * c + d) (2 * d) (mul-pos (zero-lt-suc 1) B) (mul-pos (zero-lt-suc 1) D) (omega arith)

pub half-none : (a d : ℕ) → a * 2 < d → ratio_round_half_up a d ≡ 0
half-none a d h = native.Mathlib.Nat.div-eq_of_lt (lower (2 * a + d) (2 * d) (omega arith))
  where
    lower : (n m : ℕ) → n < m → n < m
    lower n m l = l

pub half-one : (a d : ℕ) → 0 < d → d ≤ a * 2 → a < d → ratio_round_half_up a d ≡ 1
half-one a d D h k =
    let q = ratio_round_half_up a d in
    let u : q * (2 * d) ≤ 2 * a + d = div-mul-le_self (2 * a + d) (2 * d) in
    let v : 2 * a + d < suc q * (2 * d) = (div-lt_iff_lt-mul (mul-pos (zero-lt-suc 1) D)).0 (le_refl (suc q)) in
    pinned q 1 (2 * d) (omega arith) (omega arith)

pub half-all : (q d : ℕ) → 0 < d → ratio_round_half_up (q * d) d ≡ q
half-all q d D =
    let r = ratio_round_half_up (q * d) d in
    let u : r * (2 * d) ≤ 2 * (q * d) + d = div-mul-le_self (2 * (q * d) + d) (2 * d) in
    let v : 2 * (q * d) + d < suc r * (2 * d) = (div-lt_iff_lt-mul (mul-pos (zero-lt-suc 1) D)).0 (le_refl (suc r)) in
    pinned r q (2 * d) (omega arith) (omega arith)

pub half-by : (m h : ℕ) → 0 < h → ratio_round_half_up m (h * 2) ≡ (m + h) / (h * 2)
half-by m h H = ap (λ z. z / (2 * (h * 2))) (turn m h) ∙ native.Mathlib.Nat.mul-div-mul_left {m = 2} (m + h) (h * 2) (zero-lt-suc 1)
  where
    turn : (m h : ℕ) → 2 * m + h * 2 ≡ 2 * (m + h)
    turn m h = omega arith

split-div : (c y u : ℕ) → 0 < u → (c * u + y) / u ≡ c + y / u
split-div c y u U =
    let q = y / u in
    let a : q * u ≤ y = div-mul-le_self y u in
    let b : y < suc q * u = (div-lt_iff_lt-mul U).0 (le_refl (suc q)) in
    let p = (c * u + y) / u in
    let d : p * u ≤ c * u + y = div-mul-le_self (c * u + y) u in
    let e : c * u + y < suc p * u = (div-lt_iff_lt-mul U).0 (le_refl (suc p)) in
    pinned p (c + q) u (omega arith) (omega arith)

-- m + h cut at u = 2 h, where u w is H: from H to 2 H
pub bounds : (m h u w H : ℕ) → u ≡ h * 2 → u * w ≡ H → 0 < h → H ≤ m → m < H * 2 → (H ≤ (m + h) / u * u) × ((m + h) / u * u ≤ H * 2)
bounds m h u w H e f P L M =
    let q = (m + h) / u in
    let U : 0 < u = omega arith in
    let b : m + h < suc q * u = (div-lt_iff_lt-mul U).0 (le_refl (suc q)) in
    let a : q * u ≤ m + h = div-mul-le_self (m + h) u in
    let lo : w < suc q = lt_of_mul-lt-mul_right u (omega arith) in
    let hi : q < suc (2 * w) = lt_of_mul-lt-mul_right u (omega arith) in
    let lo' : w * u ≤ q * u = mul-le-mul_right u (omega arith) in
    let hi' : q * u ≤ 2 * w * u = mul-le-mul_right u (omega arith) in
    (omega arith, omega arith)

-- the same of c H + m, where H is a multiple of u
pub moved-is : (c m h u w H : ℕ) → u * w ≡ H → 0 < u → (c * H + m + h) / u * u ≡ c * H + (m + h) / u * u
moved-is c m h u w H f U = ap (λ z. z / u * u) (regroup c w u m h H f) ∙ ap (λ z. z * u) (split-div (c * w) (m + h) u U) ∙ again c w u ((m + h) / u) H f
  where
    regroup : (c w u m h H : ℕ) → u * w ≡ H → c * H + m + h ≡ c * w * u + (m + h)
    regroup c w u m h H f = omega (arith, ap (λ z. c * z) f)

    again : (c w u q H : ℕ) → u * w ≡ H → (c * w + q) * u ≡ c * H + q * u
    again c w u q H f = omega (arith, ap (λ z. c * z) f)
