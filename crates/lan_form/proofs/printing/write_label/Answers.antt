use Rattle.std.proofs.Common.{◌≡◌, ◌∙◌, ap, List, [], ◌∷◌, ◌++◌, append_assoc}
use Rattle.std.specs.Prelude.{codes}
use Rattle.std.proofs.lemmas.Result.{on_ok_weaker}
use Rattle.json.specs.Token.{Token, key, string, boolean, end_object}
use Rattle.lan_model.specs.Plain.{plain_type}
use Rattle.lan_form.specs.Printed.{kind_of}
use Rattle.lan_form.proofs.printing.write_label.Goals as goal

joined : (o x y z w : List Token) → (((o ++ x) ++ y) ++ z) ++ w ≡ o ++ (x ++ (y ++ (z ++ w)))
joined o x y z w = append_assoc ((o ++ x) ++ y) z w ∙ append_assoc (o ++ x) y (z ++ w) ∙ append_assoc o x (y ++ (z ++ w))

written : (o a b c d x y z w : List Token) → a ≡ o ++ x → b ≡ a ++ y → c ≡ b ++ z → d ≡ c ++ w → d ≡ o ++ (x ++ (y ++ (z ++ w)))
written o a b c d x y z w first second third fourth =
    fourth ∙ ap (λ l. l ++ w) (third ∙ ap (λ l. l ++ z) (second ∙ ap (λ l. l ++ y) first)) ∙ joined o x y z w

pub returns-clause-ok : goal.returns-clause-ok
returns-clause-ok c =
    let field = c.args.field.now in
    let name = c.in_ok-write_text.ensures.ok ∙ ap (λ t. c.args.out.now.tokens ++ key (codes "name") ∷ string t ∷ []) c.as_str.ensures.value in
    let flag = c.in_ok-write_flag.ensures.ok in
    let kind = c.in_ok-write_text-2.ensures.ok ∙ ap (λ t. c.write_flag.new.out.tokens ++ key (codes "type") ∷ string t ∷ []) (c.as_str-2.ensures.value ∙ c.in_ok-kind.ensures) in
    on_ok_weaker c.end_object.result
    (λ e. written c.args.out.now.tokens c.write_text.new.out.tokens c.write_flag.new.out.tokens c.write_text-2.new.out.tokens c.end_object.new.self.tokens
    (key (codes "name") ∷ string field.name ∷ []) (key (codes "nullable") ∷ boolean field.nullable ∷ []) (key (codes "type") ∷ string (kind_of (plain_type field.ty)) ∷ []) (end_object ∷ []) name flag kind e)
    c.end_object.ensures.ok
