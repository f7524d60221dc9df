use Rattle.std.proofs.Common.{◌≡◌, ◌++◌, ◌-◌, ◌+◌, suc, arith, length, sym, ap, ◌∙◌}
use Rattle.std.specs.Prelude.{min}
use Rattle.std.specs.Int.{byte_len}
use Rattle.std.proofs.lemmas.Result.{on_ok_weaker}
use Rattle.lan_rows.specs.Bits.{stored}
use Rattle.lan_rows.proofs.PrintingLemmas.{parts_on, parts_end}
use Rattle.lan_rows.proofs.printing.print_parts.Goals as goal

pub loop-preserved : goal.loop-preserved
loop-preserved c =
    let rest = c.loop.rest.now in
    let left : c.args.count - c.loop.counter ≡ suc (c.args.count - (c.loop.counter + 1)) = omega (arith, c.loop-test.true) in
    let cut : c.min.result ≡ min (byte_len (stored c.args.prim)) (length rest) = c.min.ensures ∙ ap (λ k. min k (length rest)) c.stored-size.ensures.value in
    record {
      before = c.print_bits.ensures.before ∙ c.loop.invariant.before;
      tokens = parts_on c.args.prim _ c.loop.out.tokens c.print_bits.new.out.tokens (c.args.count - c.loop.counter) (c.args.count - (c.loop.counter + 1)) c.min.result c.low_first.result rest c.split_at.result.0.now c.split_at.result.1.now c.loop.invariant.tokens left cut c.split_at.ensures.front c.split_at.ensures.back c.low_first.ensures c.in_ok-print_bits.ensures.ok;
    }

pub returns-clause-ok : goal.returns-clause-ok
returns-clause-ok c =
    let over : c.args.count - c.loop.counter ≡ 0 = omega (arith, c.loop-test.false) in
    let all = c.loop.invariant.tokens ∙ ap (λ ts. c.loop.out.tokens ++ ts) (parts_end c.args.prim (c.args.count - c.loop.counter) c.loop.rest.now over) in
    on_ok_weaker c.end_array.result (λ e. e ∙ sym all) c.end_array.ensures.ok
