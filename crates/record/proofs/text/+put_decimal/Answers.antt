use Rattle.std.proofs.Common.{◌≡◌, ℕ, ◌+◌, ◌/◌, ◌%◌, ◌<◌, ◌≤◌, [], ◌∷◌, ◌++◌, length, decimal, sym, ap, ◌∙◌, arith}
use Rattle.std.proofs.lemmas.Fmt.{decimal_digit, decimal_step}
use Rattle.std.proofs.lemmas.List.{length_push}
use Rattle.record.specs.Page.{pasted}
use Rattle.record.proofs.Pages.{length-pasted, further}
use Rattle.record.proofs.text.+put_decimal.Goals as goal

grows : (n : ℕ) → 10 ≤ n → n < 18446744073709551616 → length (decimal n) ≡ length (decimal (n / 10)) + 1
grows n h f = ap length (decimal_step n h f) ∙ length_push (decimal (n / 10)) (48 + n % 10)

pub put-requires : goal.put-requires
put-requires t c = omega (arith, ap length (decimal_digit c.args.n c.if-n-lt10.true))

pub put_decimal-next-requires : goal.put_decimal-next-requires
put_decimal-next-requires t c = omega (arith, grows c.args.n c.if-n-lt10.false (omega arith))

fits_in : (n at len : ℕ) → 10 ≤ n → n < 18446744073709551616 → at + length (decimal n) ≤ len → at + length (decimal (n / 10)) + 1 ≤ len
fits_in n at len h f r = omega (arith, grows n h f)

pub put-requires-else-n-lt10 : goal.put-requires-else-n-lt10
put-requires-else-n-lt10 t c =
    let k = fits_in c.args.n c.args.at (length c.args.buffer.now) c.if-n-lt10.false (omega arith) c.requires in
    omega (arith, c.put_decimal-next.ensures.end, k, ap length c.put_decimal-next.ensures.page, length-pasted c.args.buffer.now c.args.at (decimal (c.args.n / 10)) (omega (arith, k)))

pub returns-then-n-lt10 : goal.returns-then-n-lt10
returns-then-n-lt10 t c =
    let e : (c.args.n % 10 + 48) ∷ [] ≡ decimal c.args.n = ap (λ d. d ∷ []) (omega (arith, c.if-n-lt10.true)) ∙ sym (decimal_digit c.args.n c.if-n-lt10.true) in
    record { page = c.put.ensures.page ∙ ap (pasted c.args.buffer.now c.args.at) e; end = c.put.ensures.end ∙ ap (λ l. c.args.at + length l) e }

pub returns-else-n-lt10 : goal.returns-else-n-lt10
returns-else-n-lt10 t c =
    let n : ℕ = c.args.n in
    let k = fits_in n c.args.at (length c.args.buffer.now) c.if-n-lt10.false (omega arith) c.requires in
    let e : decimal (n / 10) ++ ((n % 10 + 48) ∷ []) ≡ decimal n = ap (λ d. decimal (n / 10) ++ (d ∷ [])) (omega arith) ∙ sym (decimal_step n c.if-n-lt10.false (omega arith)) in
    record {
      page = further c.args.buffer.now c.put_decimal-next.new.buffer _ c.args.at c.put_decimal-next.result (decimal (n / 10)) ((n % 10 + 48) ∷ []) (omega (arith, k)) c.put_decimal-next.ensures.page c.put_decimal-next.ensures.end c.put-else-n-lt10.ensures.page
          ∙ ap (pasted c.args.buffer.now c.args.at) e;
      end = omega (arith, c.put-else-n-lt10.ensures.end, c.put_decimal-next.ensures.end, grows n c.if-n-lt10.false (omega arith));
    }
