-- Fields in a field: how many there are, and the type that they make.
use Rattle.std.proofs.Common.{◌≡◌, ℕ, ◌+◌, Bool, true, false, cond, List, [], ◌∷◌, ◌++◌, refl, sym, ap, subst, ◌∙◌, arith}
use Rattle.std.specs.Prelude.{ℤ, not, ◌&&◌, Option, Some, None, IsSome, is_some, option_map}
use Rattle.std.proofs.lemmas.Bool.{false≢true, eqb-true}
use Rattle.lan_model.specs.declared.tree.Field.{Field}
use Rattle.lan_model.specs.Leaves.{count_of}
use Rattle.lan_model.specs.Plain.{PlainType, list, PlainFields, no_fields, one_field, plain_field, plain_fields}
use Rattle.lan_schema.specs.declared.shape.Shape.{Shape}
use Rattle.lan_schema.specs.declared.shape.Shape.TheVariants as shape
use Rattle.lan_schema.specs.FieldMessage.{Flat}
use Rattle.lan_schema.specs.FieldsOf.{typed, type_of, labelled, with_members, fields_of}
use Rattle.lan_schema.specs.Forest.{Label, tree, same, label_of, forest}
use Rattle.lan_schema.specs.Listed.{children_of}
use Rattle.lan_schema.specs.Logical.{leaf_type}
use Rattle.lan_schema.specs.Shapes.{takes, shape_of}

abbrev FieldsOption : Type 0
FieldsOption = Option (PlainFields ℕ)

pub some_fields : (a b : PlainFields ℕ) → Some a ≡ Some b → a ≡ b
some_fields a b e = cc

none_some : (a : PlainFields ℕ) → (let r : FieldsOption = None in r) ≡ Some a → ⊥
none_some a e = absurd cc

-- what stands for a tree and others has one field more than what stands for the others
mapped : (l : Label) (others ms : PlainFields ℕ) (t : Option (PlainType ℕ)) → option_map (labelled l others) t ≡ Some ms → count_of ms ≡ count_of others + 1
mapped l others ms None e = absurd (none_some ms e)
mapped l others ms (Some ty) e = omega (arith, ap count_of (some_fields (labelled l others ty) ms e))

parted : (l : Label) (a b : FieldsOption) (ms : PlainFields ℕ) → with_members l a b ≡ Some ms → (others : PlainFields ℕ) × (b ≡ Some others) × (count_of ms ≡ count_of others + 1)
parted l None b ms e = absurd (none_some ms e)
parted l (Some members) None ms e = absurd (none_some ms e)
parted l (Some members) (Some others) ms e = (others, refl, mapped l others ms (type_of l.logical members) e)

counted_more : (b : Bool) (q : ℤ) (f : Flat) (fs : List Flat) (ms : PlainFields ℕ) → ((other : PlainFields ℕ) → fields_of (forest q fs) ≡ Some other → count_of other ≡ children_of fs q)
    → fields_of (cond b (tree (label_of f) (forest f.id fs) (forest q fs)) (forest q fs)) ≡ Some ms → count_of ms ≡ cond b (children_of fs q + 1) (children_of fs q)
counted_more true q f fs ms h e =
    let p = parted (label_of f) (fields_of (forest f.id fs)) (fields_of (forest q fs)) ms e in
    p.2 ∙ ap (λ (n : ℕ). n + 1) (h p.0 p.1)
counted_more false q f fs ms h e = h ms e

-- as many fields stand for a parent as name it
pub count_forest : (q : ℤ) (es : List Flat) (ms : PlainFields ℕ) → fields_of (forest q es) ≡ Some ms → count_of ms ≡ children_of es q
count_forest q [] ms e = ap count_of (sym (some_fields no_fields ms e))
count_forest q (f ∷ fs) ms e = counted_more (same f.parent q) q f fs ms (count_forest q fs) e

some_from : (o : Option (PlainType ℕ)) → not (is_some o) ≡ false → IsSome o
some_from None e = absurd (false≢true (sym e))
some_from (Some ty) e = refl

-- a right number of fields makes a type
pub some_type : (s : Shape) (logical : List ℕ) (ms : PlainFields ℕ) → takes s (count_of ms) ≡ true → (takes s 0 && not (is_some (leaf_type logical))) ≡ false → IsSome (typed s logical ms)
some_type shape.Struct logical no_fields right known = absurd (false≢true right)
some_type shape.Struct logical (one_field f fs) right known = refl
some_type shape.List logical no_fields right known = absurd (false≢true right)
some_type shape.List logical (one_field f no_fields) right known = refl
some_type shape.List logical (one_field f (one_field g fs)) right known = absurd (omega (arith, eqb-true (count_of (one_field f (one_field g fs))) 1 right))
some_type shape.Leaf logical no_fields right known = some_from (leaf_type logical) known
some_type shape.Leaf logical (one_field f fs) right known = absurd (omega (arith, eqb-true (count_of (one_field f fs)) 0 right))

item_typed : (logical : List ℕ) (rest : List Field) (f : Field) → IsSome (typed shape.List logical (plain_fields (rest ++ f ∷ []))) → typed shape.List logical (plain_fields (rest ++ f ∷ [])) ≡ Some (list (plain_field f))
item_typed logical [] f some = refl
item_typed logical (g ∷ []) f some = absurd (false≢true some)
item_typed logical (g ∷ h ∷ rest) f some = absurd (false≢true some)

-- the type of a list of which the last field is taken
pub item_type : (logical : List ℕ) (fs rest : List Field) (f : Field) → shape_of logical ≡ shape.List → IsSome (type_of logical (plain_fields fs)) → fs ≡ rest ++ f ∷ [] → type_of logical (plain_fields fs) ≡ Some (list (plain_field f))
item_type logical fs rest f is some parts =
    let same : type_of logical (plain_fields fs) ≡ typed shape.List logical (plain_fields (rest ++ f ∷ [])) = ap (λ (s : Shape). typed s logical (plain_fields fs)) is ∙ ap (λ (gs : List Field). typed shape.List logical (plain_fields gs)) parts in
    same ∙ item_typed logical rest f (subst (λ (o : Option (PlainType ℕ)). IsSome o) same some)
