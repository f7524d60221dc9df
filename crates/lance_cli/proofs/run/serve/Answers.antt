use Rattle.std.proofs.Common.{◌∙◌, ap, refl, []}
use Rattle.std.specs.Prelude.{Err}
use Rattle.std.proofs.lemmas.Result.{err_from_is_err_and}
use Rattle.lan_rows.specs.Lines.{cut}
use Rattle.lance_cli.specs.Commands.{create, append, restore, scan, schema, versions}
use Rattle.lance_cli.specs.Options.{plain_options}
use Rattle.lance_cli.proofs.ByWords.{words_none, words_planned, words_refused}
use Rattle.lance_cli.proofs.Failing.{no_clash, plans_unclashed, served_unclashed}
use Rattle.lance_cli.proofs.Serving.{unplanned_served, plans_unwritten, applied_served}
use Rattle.lance_cli.proofs.run.serve.Goals as goal

pub returns-in_err-planned-in-Create-clause-served : goal.returns-in_err-planned-in-Create-clause-served
returns-in_err-planned-in-Create-clause-served g c =
    let p = err_from_is_err_and c.from_residual.result c.from_residual.ensures.1 in
    rw (c.in-Create.is, p.1, p.2) (unplanned_served (record { asked = create c.in-Create.json.now; line = c.args.line; lines = [] }) (record { before = (g.S.Store.tells c.args.store.now).objects; now = (g.S.Store.tells c.plan_create.new.store).objects; held = g.O.Sink.held c.args.out.now; holds = g.O.Sink.held c.args.out.now }) c.in_err-planned-in-Create.field-0.0 (c.in_err-planned-in-Create.ensures.plans []) c.plan_create.ensures.looked.kept refl)

pub returns-in_err-planned-in-Create-clause-write_cause : goal.returns-in_err-planned-in-Create-clause-write_cause
returns-in_err-planned-in-Create-clause-write_cause g c =
    let p = err_from_is_err_and c.from_residual.result c.from_residual.ensures.1 in
    plans_unwritten (g.S.Store.tells c.args.store.now).objects (record { asked = create c.in-Create.json.now; line = c.args.line; lines = [] }) c.from_residual.result c.in_err-planned-in-Create.field-0.0 _ (p.1 ∙ ap (λ f. Err f) p.2) (c.in_err-planned-in-Create.ensures.plans [])

pub returns-in_err-planned-in-Create-clause-raced_cause : goal.returns-in_err-planned-in-Create-clause-raced_cause
returns-in_err-planned-in-Create-clause-raced_cause g c =
    let p = err_from_is_err_and c.from_residual.result c.from_residual.ensures.1 in
    rw (p.1, p.2) (no_clash _ _ _ (plans_unclashed (g.S.Store.tells c.args.store.now).objects (record { asked = create c.in-Create.json.now; line = c.args.line; lines = [] }) c.in_err-planned-in-Create.field-0.0 (c.in_err-planned-in-Create.ensures.plans [])) c.plan_create.ensures.looked.clashes)

pub returns-in_err-planned-in-Create-clause-fails : goal.returns-in_err-planned-in-Create-clause-fails
returns-in_err-planned-in-Create-clause-fails g c =
    let p = err_from_is_err_and c.from_residual.result c.from_residual.ensures.1 in
    rw (p.1, p.2) c.in_err-planned-in-Create.ensures.looked.fails

pub returns-in_err-planned-in-Create-clause-asks : goal.returns-in_err-planned-in-Create-clause-asks
returns-in_err-planned-in-Create-clause-asks g c = rw c.in-Create.is c.in_err-planned-in-Create.ensures.looked.asks

pub returns-in_err-planned-in-Create-clause-words : goal.returns-in_err-planned-in-Create-clause-words
returns-in_err-planned-in-Create-clause-words g c =
    let p = err_from_is_err_and c.from_residual.result c.from_residual.ensures.1 in
    rw c.in-Create.is (words_refused (create c.in-Create.json.now) c.args.line (g.S.Store.tells c.args.store.now) (g.S.Store.tells c.plan_create.new.store) c.from_residual.result c.in_err-planned-in-Create.field-0.0 (p.1 ∙ ap (λ f. Err f) p.2) c.in_err-planned-in-Create.ensures.words)

pub returns-in_ok-planned-in-Create-clause-served : goal.returns-in_ok-planned-in-Create-clause-served
returns-in_ok-planned-in-Create-clause-served g c =
    rw c.in-Create.is
    (applied_served (record { asked = create c.in-Create.json.now; line = c.args.line; lines = [] }) (g.S.Store.tells c.args.store.now).objects (g.S.Store.tells c.plan_create.new.store).objects (g.S.Store.tells c.apply.new.store).objects (g.O.Sink.held c.args.out.now) (g.O.Sink.held c.apply.new.out) c.in_ok-planned-in-Create.planned c.apply.result refl c.plan_create.ensures.looked.kept
    (c.in_ok-planned-in-Create.ensures.plans []) c.apply.ensures.applies)

pub returns-in_ok-planned-in-Create-clause-raced_cause : goal.returns-in_ok-planned-in-Create-clause-raced_cause
returns-in_ok-planned-in-Create-clause-raced_cause g c = (c.puts_follow_looks.ensures.then _ _ _ _ _ _ _ c.in_ok-planned-in-Create.ensures.looked c.apply.ensures.stored).clash

pub returns-in_ok-planned-in-Create-clause-fails : goal.returns-in_ok-planned-in-Create-clause-fails
returns-in_ok-planned-in-Create-clause-fails g c = (c.puts_follow_looks.ensures.then _ _ _ _ _ _ _ c.in_ok-planned-in-Create.ensures.looked c.apply.ensures.stored).fails

pub returns-in_ok-planned-in-Create-clause-asks : goal.returns-in_ok-planned-in-Create-clause-asks
returns-in_ok-planned-in-Create-clause-asks g c = rw c.in-Create.is (c.puts_follow_looks.ensures.then _ _ _ _ _ _ _ c.in_ok-planned-in-Create.ensures.looked c.apply.ensures.stored).asks

pub returns-in_ok-planned-in-Create-clause-words : goal.returns-in_ok-planned-in-Create-clause-words
returns-in_ok-planned-in-Create-clause-words g c = rw c.in-Create.is (words_planned (create c.in-Create.json.now) c.args.line (g.S.Store.tells c.args.store.now) (g.S.Store.tells c.plan_create.new.store) (g.S.Store.tells c.apply.new.store) c.in_ok-planned-in-Create.planned c.apply.result c.in_ok-planned-in-Create.ensures.words)

pub returns-in_err-planned-in-Append-clause-served : goal.returns-in_err-planned-in-Append-clause-served
returns-in_err-planned-in-Append-clause-served g c =
    let p = err_from_is_err_and c.from_residual-in_err-planned-in-Append.result c.from_residual-in_err-planned-in-Append.ensures.1 in
    rw (c.in-Append.is, p.1, p.2) (unplanned_served (record { asked = append; line = c.args.line; lines = cut 1 [] c.args.text.items }) (record { before = (g.S.Store.tells c.args.store.now).objects; now = (g.S.Store.tells c.plan_append.new.store).objects; held = g.O.Sink.held c.args.out.now; holds = g.O.Sink.held c.args.out.now }) c.in_err-planned-in-Append.field-0.0 (c.in_err-planned-in-Append.ensures.plans c.args.line) c.plan_append.ensures.looked.kept refl)

pub returns-in_err-planned-in-Append-clause-write_cause : goal.returns-in_err-planned-in-Append-clause-write_cause
returns-in_err-planned-in-Append-clause-write_cause g c =
    let p = err_from_is_err_and c.from_residual-in_err-planned-in-Append.result c.from_residual-in_err-planned-in-Append.ensures.1 in
    plans_unwritten (g.S.Store.tells c.args.store.now).objects (record { asked = append; line = c.args.line; lines = cut 1 [] c.args.text.items }) c.from_residual-in_err-planned-in-Append.result c.in_err-planned-in-Append.field-0.0 _ (p.1 ∙ ap (λ f. Err f) p.2) (c.in_err-planned-in-Append.ensures.plans c.args.line)

pub returns-in_err-planned-in-Append-clause-raced_cause : goal.returns-in_err-planned-in-Append-clause-raced_cause
returns-in_err-planned-in-Append-clause-raced_cause g c =
    let p = err_from_is_err_and c.from_residual-in_err-planned-in-Append.result c.from_residual-in_err-planned-in-Append.ensures.1 in
    rw (p.1, p.2) (no_clash _ _ _ (plans_unclashed (g.S.Store.tells c.args.store.now).objects (record { asked = append; line = c.args.line; lines = cut 1 [] c.args.text.items }) c.in_err-planned-in-Append.field-0.0 (c.in_err-planned-in-Append.ensures.plans c.args.line)) c.plan_append.ensures.looked.clashes)

pub returns-in_err-planned-in-Append-clause-fails : goal.returns-in_err-planned-in-Append-clause-fails
returns-in_err-planned-in-Append-clause-fails g c =
    let p = err_from_is_err_and c.from_residual-in_err-planned-in-Append.result c.from_residual-in_err-planned-in-Append.ensures.1 in
    rw (p.1, p.2) c.in_err-planned-in-Append.ensures.looked.fails

pub returns-in_err-planned-in-Append-clause-asks : goal.returns-in_err-planned-in-Append-clause-asks
returns-in_err-planned-in-Append-clause-asks g c = rw c.in-Append.is c.in_err-planned-in-Append.ensures.looked.asks

pub returns-in_err-planned-in-Append-clause-words : goal.returns-in_err-planned-in-Append-clause-words
returns-in_err-planned-in-Append-clause-words g c = rw c.in-Append.is (words_none (append) c.args.line _ _ _ refl)

pub returns-in_ok-planned-in-Append-clause-served : goal.returns-in_ok-planned-in-Append-clause-served
returns-in_ok-planned-in-Append-clause-served g c =
    rw c.in-Append.is
    (applied_served (record { asked = append; line = c.args.line; lines = cut 1 [] c.args.text.items }) (g.S.Store.tells c.args.store.now).objects (g.S.Store.tells c.plan_append.new.store).objects (g.S.Store.tells c.apply-in-Append.new.store).objects (g.O.Sink.held c.args.out.now) (g.O.Sink.held c.apply-in-Append.new.out) c.in_ok-planned-in-Append.planned c.apply-in-Append.result refl c.plan_append.ensures.looked.kept
    (c.in_ok-planned-in-Append.ensures.plans c.args.line) c.apply-in-Append.ensures.applies)

pub returns-in_ok-planned-in-Append-clause-raced_cause : goal.returns-in_ok-planned-in-Append-clause-raced_cause
returns-in_ok-planned-in-Append-clause-raced_cause g c = (c.puts_follow_looks.ensures.then _ _ _ _ _ _ _ c.in_ok-planned-in-Append.ensures.looked c.apply-in-Append.ensures.stored).clash

pub returns-in_ok-planned-in-Append-clause-fails : goal.returns-in_ok-planned-in-Append-clause-fails
returns-in_ok-planned-in-Append-clause-fails g c = (c.puts_follow_looks.ensures.then _ _ _ _ _ _ _ c.in_ok-planned-in-Append.ensures.looked c.apply-in-Append.ensures.stored).fails

pub returns-in_ok-planned-in-Append-clause-asks : goal.returns-in_ok-planned-in-Append-clause-asks
returns-in_ok-planned-in-Append-clause-asks g c = rw c.in-Append.is (c.puts_follow_looks.ensures.then _ _ _ _ _ _ _ c.in_ok-planned-in-Append.ensures.looked c.apply-in-Append.ensures.stored).asks

pub returns-in_ok-planned-in-Append-clause-words : goal.returns-in_ok-planned-in-Append-clause-words
returns-in_ok-planned-in-Append-clause-words g c = rw c.in-Append.is (words_none (append) c.args.line _ _ _ refl)

pub returns-in_err-planned-in-Restore-clause-served : goal.returns-in_err-planned-in-Restore-clause-served
returns-in_err-planned-in-Restore-clause-served g c =
    let p = err_from_is_err_and c.from_residual-in_err-planned-in-Restore.result c.from_residual-in_err-planned-in-Restore.ensures.1 in
    rw (c.in-Restore.is, p.1, p.2) (unplanned_served (record { asked = restore c.in-Restore.version; line = c.args.line; lines = [] }) (record { before = (g.S.Store.tells c.args.store.now).objects; now = (g.S.Store.tells c.plan_restore.new.store).objects; held = g.O.Sink.held c.args.out.now; holds = g.O.Sink.held c.args.out.now }) c.in_err-planned-in-Restore.field-0.0 (c.in_err-planned-in-Restore.ensures.plans c.args.line []) c.plan_restore.ensures.looked.kept refl)

pub returns-in_err-planned-in-Restore-clause-write_cause : goal.returns-in_err-planned-in-Restore-clause-write_cause
returns-in_err-planned-in-Restore-clause-write_cause g c =
    let p = err_from_is_err_and c.from_residual-in_err-planned-in-Restore.result c.from_residual-in_err-planned-in-Restore.ensures.1 in
    plans_unwritten (g.S.Store.tells c.args.store.now).objects (record { asked = restore c.in-Restore.version; line = c.args.line; lines = [] }) c.from_residual-in_err-planned-in-Restore.result c.in_err-planned-in-Restore.field-0.0 _ (p.1 ∙ ap (λ f. Err f) p.2) (c.in_err-planned-in-Restore.ensures.plans c.args.line [])

pub returns-in_err-planned-in-Restore-clause-raced_cause : goal.returns-in_err-planned-in-Restore-clause-raced_cause
returns-in_err-planned-in-Restore-clause-raced_cause g c =
    let p = err_from_is_err_and c.from_residual-in_err-planned-in-Restore.result c.from_residual-in_err-planned-in-Restore.ensures.1 in
    rw (p.1, p.2) (no_clash _ _ _ (plans_unclashed (g.S.Store.tells c.args.store.now).objects (record { asked = restore c.in-Restore.version; line = c.args.line; lines = [] }) c.in_err-planned-in-Restore.field-0.0 (c.in_err-planned-in-Restore.ensures.plans c.args.line [])) c.plan_restore.ensures.looked.clashes)

pub returns-in_err-planned-in-Restore-clause-fails : goal.returns-in_err-planned-in-Restore-clause-fails
returns-in_err-planned-in-Restore-clause-fails g c =
    let p = err_from_is_err_and c.from_residual-in_err-planned-in-Restore.result c.from_residual-in_err-planned-in-Restore.ensures.1 in
    rw (p.1, p.2) c.in_err-planned-in-Restore.ensures.looked.fails

pub returns-in_err-planned-in-Restore-clause-asks : goal.returns-in_err-planned-in-Restore-clause-asks
returns-in_err-planned-in-Restore-clause-asks g c = rw c.in-Restore.is c.in_err-planned-in-Restore.ensures.looked.asks

pub returns-in_err-planned-in-Restore-clause-words : goal.returns-in_err-planned-in-Restore-clause-words
returns-in_err-planned-in-Restore-clause-words g c = rw c.in-Restore.is (words_none (restore c.in-Restore.version) c.args.line _ _ _ refl)

pub returns-in_ok-planned-in-Restore-clause-served : goal.returns-in_ok-planned-in-Restore-clause-served
returns-in_ok-planned-in-Restore-clause-served g c =
    rw c.in-Restore.is
    (applied_served (record { asked = restore c.in-Restore.version; line = c.args.line; lines = [] }) (g.S.Store.tells c.args.store.now).objects (g.S.Store.tells c.plan_restore.new.store).objects (g.S.Store.tells c.apply-in-Restore.new.store).objects (g.O.Sink.held c.args.out.now) (g.O.Sink.held c.apply-in-Restore.new.out) c.in_ok-planned-in-Restore.planned c.apply-in-Restore.result refl c.plan_restore.ensures.looked.kept
    (c.in_ok-planned-in-Restore.ensures.plans c.args.line []) c.apply-in-Restore.ensures.applies)

pub returns-in_ok-planned-in-Restore-clause-raced_cause : goal.returns-in_ok-planned-in-Restore-clause-raced_cause
returns-in_ok-planned-in-Restore-clause-raced_cause g c = (c.puts_follow_looks.ensures.then _ _ _ _ _ _ _ c.in_ok-planned-in-Restore.ensures.looked c.apply-in-Restore.ensures.stored).clash

pub returns-in_ok-planned-in-Restore-clause-fails : goal.returns-in_ok-planned-in-Restore-clause-fails
returns-in_ok-planned-in-Restore-clause-fails g c = (c.puts_follow_looks.ensures.then _ _ _ _ _ _ _ c.in_ok-planned-in-Restore.ensures.looked c.apply-in-Restore.ensures.stored).fails

pub returns-in_ok-planned-in-Restore-clause-asks : goal.returns-in_ok-planned-in-Restore-clause-asks
returns-in_ok-planned-in-Restore-clause-asks g c = rw c.in-Restore.is (c.puts_follow_looks.ensures.then _ _ _ _ _ _ _ c.in_ok-planned-in-Restore.ensures.looked c.apply-in-Restore.ensures.stored).asks

pub returns-in_ok-planned-in-Restore-clause-words : goal.returns-in_ok-planned-in-Restore-clause-words
returns-in_ok-planned-in-Restore-clause-words g c = rw c.in-Restore.is (words_none (restore c.in-Restore.version) c.args.line _ _ _ refl)

pub returns-in-Scan-clause-served : goal.returns-in-Scan-clause-served
returns-in-Scan-clause-served g c = rw c.in-Scan.is (c.serve_scan.ensures.served c.args.line [])

pub returns-in-Scan-clause-raced_cause : goal.returns-in-Scan-clause-raced_cause
returns-in-Scan-clause-raced_cause g c = no_clash _ _ _ (served_unclashed _ (record { asked = scan (plain_options c.in-Scan.options); line = c.args.line; lines = [] }) c.serve_scan.result refl (c.serve_scan.ensures.served c.args.line [])) c.serve_scan.ensures.clashes

pub returns-in-Scan-clause-words : goal.returns-in-Scan-clause-words
returns-in-Scan-clause-words g c = rw c.in-Scan.is (words_none (scan (plain_options c.in-Scan.options)) c.args.line _ _ _ refl)

pub returns-in-Scan-clause-asks : goal.returns-in-Scan-clause-asks
returns-in-Scan-clause-asks g c = rw c.in-Scan.is c.serve_scan.ensures.asks

pub returns-in-Schema-clause-served : goal.returns-in-Schema-clause-served
returns-in-Schema-clause-served g c = rw c.in-Schema.is (c.serve_schema.ensures.served c.args.line [])

pub returns-in-Schema-clause-raced_cause : goal.returns-in-Schema-clause-raced_cause
returns-in-Schema-clause-raced_cause g c = no_clash _ _ _ (served_unclashed _ (record { asked = schema c.in-Schema.version; line = c.args.line; lines = [] }) c.serve_schema.result refl (c.serve_schema.ensures.served c.args.line [])) c.serve_schema.ensures.looked.clashes

pub returns-in-Schema-clause-words : goal.returns-in-Schema-clause-words
returns-in-Schema-clause-words g c = rw c.in-Schema.is (words_none (schema c.in-Schema.version) c.args.line _ _ _ refl)

pub returns-in-Schema-clause-fails : goal.returns-in-Schema-clause-fails
returns-in-Schema-clause-fails g c = c.serve_schema.ensures.looked.fails

pub returns-in-Schema-clause-asks : goal.returns-in-Schema-clause-asks
returns-in-Schema-clause-asks g c = rw c.in-Schema.is c.serve_schema.ensures.looked.asks

pub returns-in-Versions-clause-served : goal.returns-in-Versions-clause-served
returns-in-Versions-clause-served g c = rw c.in-Versions.is (c.serve_versions.ensures.served c.args.line [])

pub returns-in-Versions-clause-raced_cause : goal.returns-in-Versions-clause-raced_cause
returns-in-Versions-clause-raced_cause g c = no_clash _ _ _ (served_unclashed _ (record { asked = versions; line = c.args.line; lines = [] }) c.serve_versions.result refl (c.serve_versions.ensures.served c.args.line [])) c.serve_versions.ensures.looked.clashes

pub returns-in-Versions-clause-words : goal.returns-in-Versions-clause-words
returns-in-Versions-clause-words g c = rw c.in-Versions.is (words_none (versions) c.args.line _ _ _ refl)

pub returns-in-Versions-clause-fails : goal.returns-in-Versions-clause-fails
returns-in-Versions-clause-fails g c = c.serve_versions.ensures.looked.fails

pub returns-in-Versions-clause-asks : goal.returns-in-Versions-clause-asks
returns-in-Versions-clause-asks g c = rw c.in-Versions.is c.serve_versions.ensures.looked.asks
