use Rattle.std.proofs.Common.{◌≡◌, sym, ◌∙◌, ap, ℕ, List}
use Rattle.std.specs.Prelude.{Option, Some, option_map}
use Rattle.lance_cli.specs.Commands.{asked_as, asked_of}
use Rattle.lance_cli.specs.Replies.{alone}
use Rattle.lance_cli.specs.declared.command.Asked.{Asked as Parsed}
use Rattle.lance_cli.proofs.RunClauses.{served_kept, served_ran, served_done, served_stops, served_decided, moments_of, served_order}
use Rattle.lance_cli.proofs.run.run.Goals as goal

-- what the words ask for
asked : (words : List (List ℕ)) (o : Option Parsed) (p : Parsed) → option_map asked_as o ≡ asked_of words → o ≡ Some p → asked_of words ≡ Some (asked_as p)
asked words o p of is = sym of ∙ ap (λ o. option_map asked_as o) is

pub returns-clause-kept : goal.returns-clause-kept
returns-clause-kept g c =
    served_kept (record { before = (g.S.Store.tells c.args.store.now).objects; now = (g.S.Store.tells c.serve.new.store).objects; held = g.O.Sink.held c.args.out.now; holds = g.O.Sink.held c.serve.new.out }) (alone (asked_as c.in-Some.asked) c.in_ok-text.text.items) c.serve.result c.serve.ensures.served

pub returns-clause-ran : goal.returns-clause-ran
returns-clause-ran g c = served_ran (record { words = c.args.words.now; objects = (g.S.Store.tells c.args.store.now).objects; input = g.I.Source.left c.args.input.now }) (g.S.Store.tells c.serve.new.store).objects (g.O.Sink.held c.args.out.now) (g.O.Sink.held c.serve.new.out) (asked_as c.in-Some.asked) (g.I.Source.left c.take_text.new.input) c.in_ok-text.text c.serve.result (asked c.args.words.now _ c.in-Some.asked c.in_ok-asked.ensures c.in-Some.is) c.in_ok-text.ensures.takes c.serve.ensures.served

pub returns-clause-done : goal.returns-clause-done
returns-clause-done g c = served_done (record { words = c.args.words.now; objects = (g.S.Store.tells c.args.store.now).objects; input = g.I.Source.left c.args.input.now }) (g.S.Store.tells c.serve.new.store).objects (g.O.Sink.held c.args.out.now) (g.O.Sink.held c.serve.new.out) (asked_as c.in-Some.asked) (g.I.Source.left c.take_text.new.input) c.in_ok-text.text c.serve.result (asked c.args.words.now _ c.in-Some.asked c.in_ok-asked.ensures c.in-Some.is) c.in_ok-text.ensures.takes c.serve.ensures.served

pub returns-clause-stops : goal.returns-clause-stops
returns-clause-stops g c = served_stops (record { words = c.args.words.now; objects = (g.S.Store.tells c.args.store.now).objects; input = g.I.Source.left c.args.input.now }) (g.S.Store.tells c.serve.new.store).objects (g.O.Sink.held c.args.out.now) (g.O.Sink.held c.serve.new.out) (asked_as c.in-Some.asked) (g.I.Source.left c.take_text.new.input) c.in_ok-text.text c.serve.result (asked c.args.words.now _ c.in-Some.asked c.in_ok-asked.ensures c.in-Some.is) c.in_ok-text.ensures.takes c.serve.ensures.served

pub returns-clause-decided : goal.returns-clause-decided
returns-clause-decided g c = served_decided (record { words = c.args.words.now; objects = (g.S.Store.tells c.args.store.now).objects; input = g.I.Source.left c.args.input.now }) (g.S.Store.tells c.serve.new.store).objects (g.O.Sink.held c.args.out.now) (g.O.Sink.held c.serve.new.out) (asked_as c.in-Some.asked) (g.I.Source.left c.take_text.new.input) c.in_ok-text.text c.serve.result (asked c.args.words.now _ c.in-Some.asked c.in_ok-asked.ensures c.in-Some.is) c.in_ok-text.ensures.takes c.serve.ensures.served

pub returns-clause-moments : goal.returns-clause-moments
returns-clause-moments g c =
    moments_of (record { words = c.args.words.now; objects = (g.S.Store.tells c.args.store.now).objects; input = g.I.Source.left c.args.input.now }) (g.S.Store.tells c.serve.new.store).objects (g.O.Sink.held c.args.out.now) (g.O.Sink.held c.serve.new.out) c.serve.result (served_done (record { words = c.args.words.now; objects = (g.S.Store.tells c.args.store.now).objects; input = g.I.Source.left c.args.input.now }) (g.S.Store.tells c.serve.new.store).objects (g.O.Sink.held c.args.out.now) (g.O.Sink.held c.serve.new.out) (asked_as c.in-Some.asked) (g.I.Source.left c.take_text.new.input) c.in_ok-text.text c.serve.result (asked c.args.words.now _ c.in-Some.asked c.in_ok-asked.ensures c.in-Some.is) c.in_ok-text.ensures.takes c.serve.ensures.served) (served_stops (record { words = c.args.words.now; objects = (g.S.Store.tells c.args.store.now).objects; input = g.I.Source.left c.args.input.now }) (g.S.Store.tells c.serve.new.store).objects (g.O.Sink.held c.args.out.now) (g.O.Sink.held c.serve.new.out) (asked_as c.in-Some.asked) (g.I.Source.left c.take_text.new.input) c.in_ok-text.text c.serve.result (asked c.args.words.now _ c.in-Some.asked c.in_ok-asked.ensures c.in-Some.is) c.in_ok-text.ensures.takes c.serve.ensures.served)

pub returns-clause-order : goal.returns-clause-order
returns-clause-order g c = served_order (record { words = c.args.words.now; objects = (g.S.Store.tells c.args.store.now).objects; input = g.I.Source.left c.args.input.now }) (asked_as c.in-Some.asked) (g.I.Source.left c.take_text.new.input) c.in_ok-text.text _ _ c.serve.result (asked c.args.words.now _ c.in-Some.asked c.in_ok-asked.ensures c.in-Some.is) c.in_ok-text.ensures.takes c.serve.ensures.words
