-- The definition computed at some words: the same patterns and counts as f64 arithmetic gives elsewhere.
use Rattle.std.proofs.Common.{◌≡◌, ℕ, ◌%◌, ℤ, pos, negsuc, refl}
use lib.Ieee.{binary32, binary64, of_bits, to_bits, add, sub, mul, to_signed}
use Rattle.std.specs.Float.{round_with}
use Rattle.reducers.specs.Reduce.{reduce, reduce_small, reduce_from}

abbrev pub answer : ℕ → ℕ × ℤ
answer w = let r = reduce (of_bits binary32 w) (w % 2147483648) in (to_bits binary64 r.0, r.1)

at0 : answer 1769864737 ≡ (13827574233359258151, negsuc 121128005324728964)
unfolding reduce_small reduce_from of_bits to_bits add sub mul to_signed round_with
at0 = refl

at1 : answer 1870249541 ≡ (4490556304661321389, pos 669392152912)
unfolding reduce_small reduce_from of_bits to_bits add sub mul to_signed round_with
at1 = refl

at2 : answer 1249902591 ≡ (4595546842597912613, pos 42722827)
unfolding reduce_small reduce_from of_bits to_bits add sub mul to_signed round_with
at2 = refl

at3 : answer 1249902592 ≡ (13822024152033657817, pos 42722830)
unfolding reduce_small reduce_from of_bits to_bits add sub mul to_signed round_with
at3 = refl

at4 : answer 1492958431 ≡ (4602717129066665744, pos 22644361614968010)
unfolding reduce_small reduce_from of_bits to_bits add sub mul to_signed round_with
at4 = refl

at5 : answer 4231754697 ≡ (4602678819600182651, pos 36199815279)
unfolding reduce_small reduce_from of_bits to_bits add sub mul to_signed round_with
at5 = refl

at6 : answer 1064614378 ≡ (13821775189429597925, pos 10)
unfolding reduce_small reduce_from of_bits to_bits add sub mul to_signed round_with
at6 = refl

at7 : answer 2147483649 ≡ (13174259471570552963, pos 0)
unfolding reduce_small reduce_from of_bits to_bits add sub mul to_signed round_with
at7 = refl

at8 : answer 1501560833 ≡ (13820630088315231758, pos 45873294582303474)
unfolding reduce_small reduce_from of_bits to_bits add sub mul to_signed round_with
at8 = refl

at9 : answer 3212836864 ≡ (13819238399865921705, negsuc 9)
unfolding reduce_small reduce_from of_bits to_bits add sub mul to_signed round_with
at9 = refl

at10 : answer 1132258801 ≡ (4496531686727967648, pos 2576)
unfolding reduce_small reduce_from of_bits to_bits add sub mul to_signed round_with
at10 = refl

at11 : answer 1769994258 ≡ (13827670049052494690, negsuc 122070510197779348)
unfolding reduce_small reduce_from of_bits to_bits add sub mul to_signed round_with
at11 = refl
