-- The text of a tree of JSON is read as that tree.
use Rattle.std.proofs.Common.{◌≡◌, sym, ap, ◌∙◌, ◌≤◌, [], append-nil}
use Rattle.std.specs.Prelude.{option_and_then}
use Rattle.json.specs.Json as json
use Rattle.json.specs.Print.{print}
use Rattle.json.specs.Tree.{json_tokens, HasNumbers, depth}
use Rattle.json.proofs.Printed.Tokens.{tokens-print}
use Rattle.json.proofs.Printed.Trees.{value-json_tokens, ArePrintable-json_tokens}
use Rattle.serde_json.specs.Read.{read, of_json, max_depth}

pub read_tree : (j : json.Json) → HasNumbers j → depth j ≤ 127 → read (print (json_tokens j)) ≡ of_json j
read_tree j numbers shallow =
    ap (λ p. option_and_then of_json (option_and_then (λ q. json.if_last q.0 q.1) p))
    (ap (json.value max_depth) (tokens-print (json_tokens j) (ArePrintable-json_tokens j numbers) ∙ sym (append-nil (json_tokens j)))
    ∙ value-json_tokens j max_depth [] shallow)
