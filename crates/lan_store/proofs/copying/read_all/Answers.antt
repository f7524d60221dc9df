use Rattle.std.proofs.Common.{◌≡◌, ◌+◌, ◌<◌, drop, subst, ◌∙◌, ap, ◌++◌, length, take, arith, rules, true}
use Rattle.std.specs.Prelude.{Ok, is_ok, option_map}
use Rattle.lan_store.specs.Streams.{Takes}
use Rattle.lan_store.specs.declared.source.Failed.{Failed}
use Rattle.lan_store.proofs.Told.{read_more, read_end, dropped_twice}
use Rattle.lan_store.proofs.copying.read_all.Goals as goal

pub returns-in-Ok-eq0-clause-read : goal.returns-in-Ok-eq0-clause-read
returns-in-Ok-eq0-clause-read g c = (
  omega arith,
  λ bytes told.
      let some : 0 < length c.read.new.into = omega (arith, c.read.auto.into) in
      let next = subst (λ n. Takes {E = Failed} (g.I.Source.left c.reading.input) (g.I.Source.left c.read.new.self) c.read.new.into (Ok n)) c.in-Ok-eq0.field-0-test c.in-Ok-eq0.ensures.bytes in
      read_end (g.I.Source.left c.args.input.now) (g.I.Source.left c.reading.input) (g.I.Source.left c.read.new.self) c.reading.bytes.items c.read.new.into bytes c.reading.invariant.read some next told,
)

pub reading-preserved : goal.reading-preserved
reading-preserved g c = record {
  read =
      let ok : is_ok c.extend_from_slice.result ≡ true = search rules in
      let got : c.extend_from_slice.new.self.items ≡ c.reading.bytes.items ++ take c.in-Ok.n c.read.new.into = search rules in
      read_more (g.I.Source.left c.args.input.now) (g.I.Source.left c.reading.input) (g.I.Source.left c.read.new.self) c.reading.bytes.items c.extend_from_slice.new.self.items c.read.new.into c.in-Ok.n
      c.reading.invariant.read c.in-Ok.ensures.within c.in-Ok.ensures.bytes got;
  later = search rules;
}

pub returns-then-is_err-clause-read : goal.returns-then-is_err-clause-read
returns-then-is_err-clause-read g c = (
  length c.reading.bytes.items + c.in-Ok.n,
  c.in-Ok.ensures.bytes.0 ∙ ap (λ o. option_map (drop c.in-Ok.n) o) c.reading.invariant.read.left ∙ dropped_twice (g.I.Source.left c.args.input.now) (length c.reading.bytes.items) c.in-Ok.n,
)
