-- Fields that are counted, few, and have texts for names can be told by messages.
use Rattle.std.proofs.Common.{◌≡◌, refl, sym, subst, ap, ◌∙◌, ℕ, ◌+◌, ◌^◌, ◌≤◌, List, [], ◌∷◌, ◌++◌, map, arith}
use Rattle.lan_model.specs.declared.tree.Field.{Field}
use Rattle.lan_model.specs.Plain.{PlainType, primitive, vector, text, bytes, list, struct, PlainField, field, PlainFields, no_fields, one_field, plain_field, plain_fields, fields_from}
use Rattle.std.specs.Prelude.{Some}
use Rattle.lan_schema.specs.Logical.{leaf_type, IsLeafType}
use Rattle.lan_schema.proofs.LawTerms.{named_once}
use Rattle.lan_schema.specs.Written.{CanTell, CanTellType, CanTellAll}
use Rattle.lan_form.specs.Names.{HasTextNames, HasTextsInside, HaveTextNames}
use Rattle.lan_form.specs.Numbers.{fields_in, inside, all_in, CountsFrom, InsideFrom, CountFrom}
use Rattle.lan_form.proofs.Counting.{plain_more}

mutual
  pub told : (f : PlainField ℕ) (n : ℕ) → CountsFrom n f → HasTextNames f → n + fields_in f ≤ 2 ^ 31 → CanTell f
  told (field id name nullable ty) n counts texts room = (omega (arith, counts.0, room), texts.0, told_inside ty (n + 1) counts.1 texts.1 (omega (arith, room)))

  told_inside : (t : PlainType ℕ) (n : ℕ) → InsideFrom n t → HasTextsInside t → n + inside t ≤ 2 ^ 31 → CanTellType t
  told_inside (primitive p) n counts texts room = tt
  told_inside (vector p k) n counts texts room = tt
  told_inside text n counts texts room = tt
  told_inside bytes n counts texts room = tt
  told_inside (list item) n counts texts room = told item n counts texts room
  told_inside (struct members) n counts texts room = all_told members n counts texts room

  pub all_told : (fs : PlainFields ℕ) (n : ℕ) → CountFrom n fs → HaveTextNames fs → n + all_in fs ≤ 2 ^ 31 → CanTellAll fs
  all_told no_fields n counts texts room = tt
  all_told (one_field f fs) n counts texts room = (told f n counts.0 texts.0 (omega (arith, room)), all_told fs (n + fields_in f) counts.1 texts.1 (omega (arith, room)))

leaf_texts_of : (t : PlainType ℕ) → IsLeafType t → HasTextsInside t
leaf_texts_of (primitive q) leaf = tt
leaf_texts_of (vector q m) leaf = tt
leaf_texts_of text leaf = tt
leaf_texts_of bytes leaf = tt
leaf_texts_of (list item) leaf = absurd leaf
leaf_texts_of (struct members) leaf = absurd leaf

pub leaf_texts : (s : List ℕ) (t : PlainType ℕ) → leaf_type s ≡ Some t → HasTextsInside t
leaf_texts s t is = leaf_texts_of t (named_once s t is).0

all_more : (fs : List (PlainField ℕ)) (f : PlainField ℕ) → HaveTextNames (fields_from fs) → HasTextNames f → HaveTextNames (fields_from (fs ++ f ∷ []))
all_more [] f all one = (one, tt)
all_more (g ∷ fs) f all one = (all.0, all_more fs f all.1 one)

plain_from : (fs : List Field) → plain_fields fs ≡ fields_from (map plain_field fs)
plain_from [] = refl
plain_from (g ∷ fs) = ap (one_field (plain_field g)) (plain_from fs)

-- one field more
pub texts_more : (fs more : List Field) (f : Field) → HaveTextNames (plain_fields fs) → HasTextNames (plain_field f) → more ≡ fs ++ f ∷ [] → HaveTextNames (plain_fields more)
texts_more fs more f all one is =
    subst HaveTextNames (sym (ap plain_fields is ∙ plain_more fs f)) (all_more (map plain_field fs) (plain_field f) (subst HaveTextNames (plain_from fs) all) one)
