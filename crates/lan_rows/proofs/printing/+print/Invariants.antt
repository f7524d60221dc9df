use Rattle.std.proofs.Common.{◌≡◌, ◌++◌, drop, length}
use Rattle.lan_model.specs.Plain.{plain_field, plain_fields, plain_values}
use Rattle.lan_rows.specs.Line.{items_tokens, members_tokens}
use Rattle.lan_rows.proofs.printing.+print.Given as goal

abbrev pub invariant-print_items-loop-val : goal.invariant-print_items-loop-val
invariant-print_items-loop-val l = record {
  before : l.out.before ≡ l.initial.out.before;
  tokens : l.initial.out.tokens ++ items_tokens (plain_field l.field) (plain_values l.vals) ≡ l.out.tokens ++ items_tokens (plain_field l.field) (plain_values (drop l.val-index l.vals));
}

abbrev pub invariant-print_object-loop-field : goal.invariant-print_object-loop-field
invariant-print_object-loop-field l =
    let n = length l.yielded in
    record {
      before : l.out.before ≡ l.initial.out.before;
      tokens : l.initial.out.tokens ++ members_tokens (plain_fields l.fields) (plain_values l.vals) ≡ l.out.tokens ++ members_tokens (plain_fields (drop n l.fields)) (plain_values (drop n l.vals));
    }
