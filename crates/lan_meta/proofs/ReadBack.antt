-- What is written of a column's pages is read as them.
use Rattle.std.proofs.Common.{◌≡◌, ℕ, ◌^◌, ◌<◌, Bool, true, false, cond, List, [], ◌∷◌, length, map, count_by, refl, sym, ap, subst, ◌∙◌, arith, inl, inr}
use Rattle.std.specs.Prelude.{Option, Some, None, option_map, nat_lt}
use Rattle.std.specs.List.{AllByRecursion}
use Rattle.std.proofs.lemmas.Bool.{lt-ltb, ltb-true}
use Rattle.lan_bytes.specs.Placed.{Placed}
use Rattle.lan_levels.specs.declared.shape.ValueKind.{ValueKind}
use Rattle.lan_levels.specs.declared.shape.ValueKind.TheVariants as stored
use Rattle.lan_wire.specs.Rules.{open_to, closed_to}
use Rattle.lan_wire.specs.Values.{nums_under, part_under}
use Rattle.lan_wire.specs.Written.{WrittenField, num, part, spelling_of, CanWriteAll, items_placed}
use Rattle.lan_wire.proofs.LawTerms.{written_read, all_short, num_back, nums_back, part_back, part_absent, num_fits}
use Rattle.lan_meta.specs.declared.encoding.TheConstants.{ENCODING, DIRECT_ENCODING}
use Rattle.lan_meta.specs.declared.layout.SaidLayout.{SaidLayout}
use Rattle.lan_meta.specs.declared.layout.TheConstants.{CONSTANT, FULL_ZIP}
use Rattle.lan_meta.specs.declared.page.Layout.{Layout}
use Rattle.lan_meta.specs.declared.page.Layout.TheVariants.{Constant, Mini, Zip}
use Rattle.lan_meta.specs.declared.values.TheConstants.{VALUES, FLAT, CONSTANT_VALUE}
use Rattle.lan_meta.specs.LayoutMessages.{narrow, plainly, SaysConstant, SaysZip, layouts, SaysLayout}
use Rattle.lan_meta.specs.PageMessages.{SaysDirect, SaysEncoding}
use Rattle.lan_meta.specs.PageRules.{greatest_of}
use Rattle.lan_levels.specs.ZipForm.{digits}
use Rattle.lan_meta.specs.ValueMessages.{SaysFlat, SaysVariable, SaysConstantValue, SaysValues}
use Rattle.lan_meta.specs.Written.{values_text, is_list, constant_written, zip_written, layout_text, direct_text, encoding_text}

abbrev pub Words : List ℕ → Type 0
Words ns = AllByRecursion (λ n. n < 2 ^ 64) ns

abbrev pub AreBytes : List ℕ → Type 0
AreBytes ns = AllByRecursion (λ n. n < 256) ns

-- ---- codes

narrow_same : (n : ℕ) → n < 256 → narrow n ≡ n
narrow_same n h = rw (lt-ltb n 256 h) refl

codes_same : (ns : List ℕ) → AreBytes ns → map narrow ns ≡ ns
codes_same [] h = refl
codes_same (n ∷ ns) h = let first = narrow_same n h.0 in let rest = codes_same ns h.1 in λ i. first i ∷ rest i

bytes_words : (ns : List ℕ) → AreBytes ns → Words ns
bytes_words [] h = tt
bytes_words (n ∷ ns) h = (omega (arith, h.0), bytes_words ns h.1)

narrow_fits : (b : Bool) (n : ℕ) → nat_lt n 256 ≡ b → narrow n < 256
narrow_fits true n e = rw e (ltb-true n 256 e)
narrow_fits false n e = rw e (omega arith)

pub narrows_fit : (ns : List ℕ) → AreBytes (map narrow ns)
narrows_fit [] = tt
narrows_fit (n ∷ ns) = (narrow_fits (nat_lt n 256) n refl, narrows_fit ns)

-- ---- how values are stored

abbrev pub ValuesFit : ValueKind → Type 0
ValuesFit (stored.Flat bits) = bits < 2 ^ 64
ValuesFit _ = Unit {0}

flat_back : (at bits : ℕ) → bits < 2 ^ 64 → SaysFlat (record { base = at; bytes = spelling_of ((1, num bits) ∷ []) }) (stored.Flat bits)
flat_back at bits h =
    let fields : List WrittenField = (1, num bits) ∷ [] in
    record {
      items = items_placed at fields;
      reads = written_read (closed_to FLAT) at fields (record { low = omega arith; up = omega arith; room = refl; spells = h; fits = tt }, tt) (tt, tt);
      said = ap stored.Flat (sym (num_back 1 at fields bits refl));
    }

constant_value_back : (at : ℕ) (value : List ℕ) → length value < 2 ^ 64 → SaysConstantValue (record { base = at; bytes = spelling_of ((1, part value) ∷ []) }) (stored.Constant value)
constant_value_back at value h =
    let fields : List WrittenField = (1, part value) ∷ [] in
    let there = part_back 1 at fields value refl in
    record {
      items = items_placed at fields;
      reads = written_read (closed_to CONSTANT_VALUE) at fields (record { low = omega arith; up = omega arith; room = refl; spells = tt; fits = tt }, tt) (h, tt);
      said = record { part = record { base = there.0; bytes = value }; said = there.1; holds = refl };
    }

values_back : (at : ℕ) (values : ValueKind) → ValuesFit values → length (values_text values) < 2 ^ 64 → SaysValues (record { base = at; bytes = values_text values }) values
values_back at (stored.Flat bits) h small =
    let inner = spelling_of ((1, num bits) ∷ []) in
    let fields : List WrittenField = (1, part inner) ∷ [] in
    let there = part_back 1 at fields inner refl in
    record {
      items = items_placed at fields;
      reads = written_read (closed_to VALUES) at fields (record { low = omega arith; up = omega arith; room = refl; spells = tt; fits = tt }, tt) (all_short fields small);
      said = inl (record { part = record { base = there.0; bytes = inner }; said = there.1; holds = flat_back there.0 bits h });
    }
values_back at stored.Variable h small =
    let fields : List WrittenField = (2, part []) ∷ [] in
    let there = part_back 2 at fields [] refl in
    let none : SaysVariable (record { base = there.0; bytes = [] }) stored.Variable = record { items = []; reads = written_read (closed_to []) there.0 [] tt tt; said = refl } in
    record {
      items = items_placed at fields;
      reads = written_read (closed_to VALUES) at fields (record { low = omega arith; up = omega arith; room = refl; spells = tt; fits = tt }, tt) (all_short fields small);
      said = inr (inl (record { part = record { base = there.0; bytes = [] }; said = there.1; holds = none }));
    }
values_back at (stored.Constant value) h small =
    let inner = spelling_of ((1, part value) ∷ []) in
    let fields : List WrittenField = (3, part inner) ∷ [] in
    let there = part_back 3 at fields inner refl in
    let short = all_short fields small in
    record {
      items = items_placed at fields;
      reads = written_read (closed_to VALUES) at fields (record { low = omega arith; up = omega arith; room = refl; spells = tt; fits = tt }, tt) short;
      said = inr (inr (record { part = record { base = there.0; bytes = inner }; said = there.1; holds = constant_value_back there.0 value (all_short ((1, part value) ∷ []) short.0).0 }));
    }

pub values_told : (bytes : Placed) (values : ValueKind) → SaysValues bytes values → ValuesFit values
values_told bytes values s = elim s.said [
  | inl w ↦ subst ValuesFit (sym w.holds.said) (num_fits 1 w.part.base w.part.bytes w.holds.items w.holds.reads.spelled)
  | inr t ↦ elim t [
    | inl w ↦ subst ValuesFit (sym w.holds.said) tt
    | inr w ↦ subst ValuesFit (sym w.holds.said.holds) tt
  ]
]

-- ---- layouts

-- a layout as its message says it
abbrev pub said_layout : Layout → SaidLayout
said_layout (Constant codes slots value) = plainly (Constant codes slots value)
said_layout (Mini codes slots values) = plainly (Mini codes slots values)
said_layout (Zip codes slots values) = record { layout = Zip codes slots values; bits_rep = digits (count_by is_list codes); bits_def = digits (greatest_of codes) }

abbrev pub LayoutFits : Layout → Type 0
LayoutFits (Constant codes slots value) = AreBytes codes × (slots < 2 ^ 64)
LayoutFits (Mini codes slots values) = ⊥
LayoutFits (Zip codes slots values) = AreBytes codes × (slots < 2 ^ 64) × ValuesFit values

constant_back : (at : ℕ) (codes : List ℕ) (slots : ℕ) (value : Option (List ℕ)) → AreBytes codes → slots < 2 ^ 64 → length (spelling_of (constant_written codes slots value)) < 2 ^ 64
    → SaysConstant (record { base = at; bytes = spelling_of (constant_written codes slots value) }) (plainly (Constant codes slots value))
constant_back at codes slots None cs ss small =
    let fields = constant_written codes slots None in
    let code : map narrow (nums_under 1 (items_placed at fields)) ≡ codes = ap (map narrow) (nums_back 1 at fields codes (bytes_words codes cs) refl) ∙ codes_same codes cs in
    let slot = num_back 2 at fields slots refl in
    let none : option_map (λ (p : Placed). p.bytes) (part_under 3 (items_placed at fields)) ≡ None = ap (option_map (λ (p : Placed). p.bytes)) (part_absent 3 at fields refl) in
    let can : CanWriteAll (closed_to CONSTANT) [] fields = (
      record { low = omega arith; up = omega arith; room = refl; spells = bytes_words codes cs; fits = tt },
      (record { low = omega arith; up = omega arith; room = refl; spells = ss; fits = tt }, tt),
    ) in
    record {
      items = items_placed at fields;
      reads = written_read (closed_to CONSTANT) at fields can (all_short fields small);
      said = sym (λ i. plainly (Constant (code i) (slot i) (none i)));
    }
constant_back at codes slots (Some bytes) cs ss small =
    let fields = constant_written codes slots (Some bytes) in
    let code : map narrow (nums_under 1 (items_placed at fields)) ≡ codes = ap (map narrow) (nums_back 1 at fields codes (bytes_words codes cs) refl) ∙ codes_same codes cs in
    let slot = num_back 2 at fields slots refl in
    let there = part_back 3 at fields bytes refl in
    let one : option_map (λ (p : Placed). p.bytes) (part_under 3 (items_placed at fields)) ≡ Some bytes = ap (option_map (λ (p : Placed). p.bytes)) there.1 in
    let can : CanWriteAll (closed_to CONSTANT) [] fields = (
      record { low = omega arith; up = omega arith; room = refl; spells = bytes_words codes cs; fits = tt },
      (
        record { low = omega arith; up = omega arith; room = refl; spells = ss; fits = tt },
        (record { low = omega arith; up = omega arith; room = refl; spells = tt; fits = tt }, tt),
      ),
    ) in
    record {
      items = items_placed at fields;
      reads = written_read (closed_to CONSTANT) at fields can (all_short fields small);
      said = sym (λ i. plainly (Constant (code i) (slot i) (one i)));
    }

digits_fit : (n : ℕ) → digits n < 2 ^ 64
digits_fit n = by (nat_lt n 1) (nat_lt n 2) (nat_lt n 4) (nat_lt n 8) (nat_lt n 16) (nat_lt n 32) where
  by : (a b c d e f : Bool) → cond a 0 (cond b 1 (cond c 2 (cond d 3 (cond e 4 (cond f 5 6))))) < 2 ^ 64
  by true b c d e f = omega arith
  by false true c d e f = omega arith
  by false false true d e f = omega arith
  by false false false true e f = omega arith
  by false false false false true f = omega arith
  by false false false false false true = omega arith
  by false false false false false false = omega arith

zip_back : (at : ℕ) (codes : List ℕ) (slots : ℕ) (values : ValueKind) → AreBytes codes → slots < 2 ^ 64 → ValuesFit values → length (spelling_of (zip_written codes slots values)) < 2 ^ 64
    → SaysZip (record { base = at; bytes = spelling_of (zip_written codes slots values) }) (said_layout (Zip codes slots values))
zip_back at codes slots values cs ss vs small =
    let fields = zip_written codes slots values in
    let reps = digits (count_by is_list codes) in
    let defs = digits (greatest_of codes) in
    let short = all_short fields small in
    let code : map narrow (nums_under 1 (items_placed at fields)) ≡ codes = ap (map narrow) (nums_back 1 at fields codes (bytes_words codes cs) refl) ∙ codes_same codes cs in
    let slot = num_back 2 at fields slots refl in
    let there = part_back 3 at fields (values_text values) refl in
    let rep = num_back 4 at fields reps refl in
    let def = num_back 5 at fields defs refl in
    let can : CanWriteAll (closed_to FULL_ZIP) [] fields = (
      record { low = omega arith; up = omega arith; room = refl; spells = bytes_words codes cs; fits = tt },
      (
        record { low = omega arith; up = omega arith; room = refl; spells = ss; fits = tt },
        (
          record { low = omega arith; up = omega arith; room = refl; spells = tt; fits = tt },
          (
            record { low = omega arith; up = omega arith; room = refl; spells = digits_fit (count_by is_list codes); fits = tt },
            (record { low = omega arith; up = omega arith; room = refl; spells = digits_fit (greatest_of codes); fits = tt }, tt),
          ),
        ),
      ),
    ) in
    record {
      items = items_placed at fields;
      reads = written_read (closed_to FULL_ZIP) at fields can short;
      said = (
        values,
        record { part = record { base = there.0; bytes = values_text values }; said = there.1; holds = values_back there.0 values vs short.1.1.0 },
        sym (λ i. record { layout = Zip (code i) (slot i) values; bits_rep = rep i; bits_def = def i }),
      );
    }

layout_back : (at : ℕ) (layout : Layout) → LayoutFits layout → length (layout_text layout) < 2 ^ 64 → SaysLayout (record { base = at; bytes = layout_text layout }) (said_layout layout)
layout_back at (Constant codes slots value) h small =
    let inner = spelling_of (constant_written codes slots value) in
    let fields : List WrittenField = (2, part inner) ∷ [] in
    let there = part_back 2 at fields inner refl in
    let short = all_short fields small in
    record {
      items = items_placed at fields;
      reads = written_read layouts at fields (record { low = omega arith; up = omega arith; room = refl; spells = tt; fits = tt }, tt) short;
      said = inr (inl (record { part = record { base = there.0; bytes = inner }; said = there.1; holds = constant_back there.0 codes slots value h.0 h.1 short.0 }));
    }
layout_back at (Mini codes slots values) h small = absurd h
layout_back at (Zip codes slots values) h small =
    let inner = spelling_of (zip_written codes slots values) in
    let fields : List WrittenField = (3, part inner) ∷ [] in
    let there = part_back 3 at fields inner refl in
    let short = all_short fields small in
    record {
      items = items_placed at fields;
      reads = written_read layouts at fields (record { low = omega arith; up = omega arith; room = refl; spells = tt; fits = tt }, tt) short;
      said = inr (inr (record { part = record { base = there.0; bytes = inner }; said = there.1; holds = zip_back there.0 codes slots values h.0 h.1 h.2 short.0 }));
    }

direct_back : (at : ℕ) (layout : Layout) → LayoutFits layout → length (direct_text layout) < 2 ^ 64 → SaysDirect (record { base = at; bytes = direct_text layout }) (said_layout layout)
direct_back at layout h small =
    let fields : List WrittenField = (1, part (layout_text layout)) ∷ [] in
    let there = part_back 1 at fields (layout_text layout) refl in
    let short = all_short fields small in
    record {
      items = items_placed at fields;
      reads = written_read (open_to DIRECT_ENCODING) at fields (record { low = omega arith; up = omega arith; room = refl; spells = tt; fits = tt }, tt) short;
      said = record { part = record { base = there.0; bytes = layout_text layout }; said = there.1; holds = layout_back there.0 layout h short.0 };
    }

pub encoding_back : (at : ℕ) (layout : Layout) → LayoutFits layout → length (encoding_text layout) < 2 ^ 64 → SaysEncoding (record { base = at; bytes = encoding_text layout }) (said_layout layout)
encoding_back at layout h small =
    let fields : List WrittenField = (2, part (direct_text layout)) ∷ [] in
    let there = part_back 2 at fields (direct_text layout) refl in
    let short = all_short fields small in
    record {
      items = items_placed at fields;
      reads = written_read (open_to ENCODING) at fields (record { low = omega arith; up = omega arith; room = refl; spells = tt; fits = tt }, tt) short;
      said = record { part = record { base = there.0; bytes = direct_text layout }; said = there.1; holds = direct_back there.0 layout h short.0 };
    }
