use Rattle.exact.proofs.Rounding.{rounded-exact, finite-neg, value-neg}
use Rattle.exact.proofs.Powers.{add-exact, sub-exact, mul-exact}
use Rattle.exact.proofs.Multiple.{exact-at}
use Rattle.exact.proofs.Away.{away, cast-exact}
use Rattle.exact.proofs.exact_laws.Goals as goal

pub returns : goal.returns
returns c =
    record {
      values = λ f r a t q j R Q J h. (let e = rounded-exact f r a t q j R Q J h in record { fin = e.0; is = e.1 });
      multiples = exact-at;
      operations = λ f x y t q j X Y Q J. (add-exact f x y t q j X Y Q J, sub-exact f x y t q j X Y Q J, mul-exact f x y t q j X Y Q J);
      negation = λ x h. record { fin = finite-neg x h; is = value-neg x };
      away = away;
      casts = cast-exact;
    }
