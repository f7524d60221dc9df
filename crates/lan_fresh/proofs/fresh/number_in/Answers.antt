use Rattle.std.proofs.Common.{◌≢◌, sym, ◌∙◌, ap, List, ℕ, get_or, arith}
use Rattle.lan_fresh.proofs.Paths.{no_digits, not_twenty, not_plus, not_parsed, is_parsed, too_large, some_number}
use Rattle.lan_fresh.proofs.fresh.number_in.Goals as goal
use Rattle.lan_fresh.proofs.fresh.number_in.Goals.{then-digits-ne20-via-then-digits-ne20, then-digits-ne20-via-else-digits-ne20+then-as_bytes-eq43}

pub returns-then-digits-ne20 : goal.returns-then-digits-ne20
returns-then-digits-ne20 c = no_digits c.args.digits.now (elim c.then-digits-ne20.branch [
  | then-digits-ne20-via-then-digits-ne20 w ↦ not_twenty c.args.digits.now w.if-digits-ne20.true
  | then-digits-ne20-via-else-digits-ne20+then-as_bytes-eq43 w ↦ not_plus c.args.digits.now (omega (arith, w.if-as_bytes-eq43.true, ap (λ (l : List ℕ). get_or l 0 0) w.as_bytes.ensures.value))
])

pub returns-in_err-number : goal.returns-in_err-number
returns-in_err-number c =
    let plus : get_or c.args.digits.now 0 0 ≢ 43 = λ e. omega (arith, c.if-as_bytes-eq43.false, ap (λ (l : List ℕ). get_or l 0 0) c.as_bytes.ensures.value, e) in
    c.from_residual.ensures ∙ no_digits c.args.digits.now (not_parsed c.args.digits.now c.parse.result c.parse.ensures.value.0 plus (sym c.ok.ensures.value ∙ c.in_err-number.was))

pub returns-then-number-ge-PAST_NUMBERS : goal.returns-then-number-ge-PAST_NUMBERS
returns-then-number-ge-PAST_NUMBERS c =
    let plus : get_or c.args.digits.now 0 0 ≢ 43 = λ e. omega (arith, c.if-as_bytes-eq43.false, ap (λ (l : List ℕ). get_or l 0 0) c.as_bytes.ensures.value, e) in
    let parsed = is_parsed c.args.digits.now c.parse.result c.in_ok-number.number c.parse.ensures.value.0 plus (sym c.ok.ensures.value ∙ c.in_ok-number.was) in
    no_digits c.args.digits.now (too_large c.args.digits.now c.in_ok-number.number parsed.1 c.if-number-ge-PAST_NUMBERS.true)

pub returns : goal.returns
returns c =
    let plus : get_or c.args.digits.now 0 0 ≢ 43 = λ e. omega (arith, c.if-as_bytes-eq43.false, ap (λ (l : List ℕ). get_or l 0 0) c.as_bytes.ensures.value, e) in
    let parsed = is_parsed c.args.digits.now c.parse.result c.in_ok-number.number c.parse.ensures.value.0 plus (sym c.ok.ensures.value ∙ c.in_ok-number.was) in
    some_number c.args.digits.now c.in_ok-number.number (omega arith) parsed.0 parsed.1 c.if-number-ge-PAST_NUMBERS.false
