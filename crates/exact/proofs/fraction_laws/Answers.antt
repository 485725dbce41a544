use Rattle.exact.proofs.Order.{≈-refl, ≈-sym, ≈-trans, ≈→⊑, ⊑_trans, ⊑-antisym, ⊑-total, ⊕-comm, ⊕-assoc, ⊕-zero, ⊕-neg, ⊕-cong, ⊕-mono, ⊗-comm, ⊗-assoc, ⊗-one, ⊗-cong, ⊗-mono, distrib, neg_cong, neg-mono}
use Rattle.exact.proofs.Order.{triangle, within-⊕, size-⊕, within-⊗, size-⊗, within-mul-right, within-⊑, size-⊑, within-neg, size-neg, within-sym, within-≈, size-≈, size-near, within→size, size→within, abs-size, abs-below}
use Rattle.exact.proofs.fraction_laws.Goals as goal

pub returns : goal.returns
returns c =
    record {
      ring = record { add_comm = ⊕-comm; add_assoc = ⊕-assoc; add-zero = ⊕-zero; add-neg = ⊕-neg; mul_comm = ⊗-comm; mul_assoc = ⊗-assoc; mul-one = ⊗-one; distrib = distrib };
      equality = record { same = ≈-refl; turned = λ a b. ≈-sym; joined = λ a b c. ≈-trans; sums = λ a b c d. ⊕-cong; products = λ a b c d. ⊗-cong; signs = λ a b. neg_cong };
      order = record { same = λ a b. ≈→⊑; joined = λ a b c. ⊑_trans; both = λ a b. ⊑-antisym; either = ⊑-total; sums = λ a b c d. ⊕-mono; products = λ a b c. ⊗-mono c; signs = λ a b. neg-mono };
      triangle = λ a b c x y. triangle;
      sums = (λ a b c d x y. within-⊕, λ a b c d. size-⊕);
      products = (λ a b c d x y A B. within-⊗, λ a b c d. size-⊗);
      scaled = λ a b c x C. within-mul-right;
      wider = λ a b c d h. (within-⊑ h, size-⊑ h);
      signs = λ a b c. (within-neg, size-neg);
      turned = λ a b c. within-sym;
      equal = λ a b c d e h k. (within-≈ h k, size-≈ h);
      near = λ a b c d. size-near;
      difference = λ a b c. (within→size, size→within);
      absolute = λ a. (abs-size a, abs-below a);
    }
