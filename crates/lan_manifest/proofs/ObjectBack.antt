-- What is written of a manifest is an object that stands for it.
use Rattle.std.proofs.Common.{◌≡◌, ℕ, zero, suc, ◌+◌, ◌-◌, ◌%◌, ◌^◌, ◌<◌, ◌≤◌, Bool, true, false, List, [], ◌∷◌, ◌++◌, length, take, drop, map, Option, Some, None, refl, sym, ap, subst, ◌∙◌, append_assoc, append-nil, length-append, arith}
use Rattle.std.specs.Prelude.{ℤ, negsuc, codes, flat_map, option_map, IsTrue, IfSome}
use Rattle.std.specs.Int.{w16, w32, w64, to_le_bytes, from_le_bytes}
use Rattle.std.specs.List.{AllByRecursion}
use Rattle.std.specs.Str.{is_utf8}
use Rattle.std.proofs.lemmas.List.Folds.{flat_map-map}
use Rattle.std.proofs.lemmas.Nat.{from_le_bytes-to_le_bytes_4}
use Rattle.std.proofs.Math.Seq.{drop-append_seam, take-append_seam}
use Rattle.lan_bytes.specs.Placed.{Placed, part_of}
use Rattle.lan_model.specs.Plain.{fields_from}
use Rattle.lan_wire.specs.Messages.{ReadEach, ReadsItems}
use Rattle.lan_wire.specs.Readers.{IsInt32}
use Rattle.lan_wire.specs.Rules.{Rules, open_to}
use Rattle.lan_wire.specs.Spelling.{part_item, num_item, num_field, part_field, packed_field, two_complement}
use Rattle.lan_wire.specs.Values.{parts_under}
use Rattle.lan_wire.specs.Written.{WrittenField, num, present, text, part, packed, parts, flag_number, with_spellings, spelling_of, CanWriteAll, AreShort, about, items_placed}
use Rattle.lan_wire.proofs.LawTerms.{written_read, all_short, num_back, small_back, maybe_small_back, maybe_small_absent, text_back, part_back, part_absent, parts_back, signeds_back}
use Rattle.lan_wire.proofs.WrittenValues.{complements_below, complements_fit}
use Rattle.lan_schema.specs.FieldMessages.{listing}
use Rattle.lan_schema.specs.FieldsOf.{FieldsOf}
use Rattle.lan_schema.specs.FieldTree.{all_messages}
use Rattle.lan_schema.specs.Written.{IsWritable}
use Rattle.lan_schema.proofs.LawTerms.{written_before, messages_of}
use Rattle.lan_manifest.specs.declared.manifest.DataFile.{DataFile}
use Rattle.lan_manifest.specs.declared.manifest.Deletion.{Deletion}
use Rattle.lan_manifest.specs.declared.manifest.Fragment.{Fragment}
use Rattle.lan_manifest.specs.declared.said.SaidFile.{SaidFile}
use Rattle.lan_manifest.specs.declared.said.SaidDeletion.{SaidDeletion}
use Rattle.lan_manifest.specs.declared.said.SaidFragment.{SaidFragment}
use Rattle.lan_manifest.specs.declared.said.SaidManifest.{SaidManifest}
use Rattle.lan_manifest.specs.declared.said.TheConstants.{MANIFEST, DATA_FRAGMENT, ROW_IDS, DATA_FILE, DELETION_FILE}
use Rattle.lan_manifest.specs.Frame.{IsFramed, place_in, length_in}
use Rattle.lan_manifest.specs.ManifestMessages.{SaysFile, SaysDeletion, SaysFragment, SaysManifest}
use Rattle.lan_manifest.specs.ManifestObjects.{unknown_flags, KeepsRules, fragment_of, StandsForManifest, IsManifestObject}
use Rattle.lan_manifest.specs.Manifests.{PlainManifest, complements, file_text, deletion_text, fragment_text, greatest_text, has_deletions, manifest_text, framed}
use Rattle.lan_manifest.specs.SchemaLeaves.{shape_of}

-- ---- files

-- a file as its message says it
abbrev pub said_file : DataFile → SaidFile
said_file f = record { file = f; major = 2; minor = 1 }

abbrev file_fields : DataFile → List WrittenField
file_fields f = (1, text f.path) ∷ (2, packed (map two_complement f.ids)) ∷ (3, packed (map two_complement f.columns)) ∷ (4, num 2) ∷ (5, num 1) ∷ []

-- a file that can be written
pub record FileFits (f : DataFile) : Type 0 where
  pub path : IsTrue (is_utf8 f.path)
  pub ids : AllByRecursion IsInt32 f.ids
  pub columns : AllByRecursion IsInt32 f.columns

complements_are : (zs : List ℤ) → complements zs ≡ map two_complement zs
complements_are [] = refl
complements_are (z ∷ zs) = ap (λ (ns : List ℕ). two_complement z ∷ ns) (complements_are zs)

file_spelled : (f : DataFile) → file_text f ≡ spelling_of (file_fields f)
file_spelled f = λ i. part_field 1 f.path ++ packed_field 2 (complements_are f.ids i) ++ packed_field 3 (complements_are f.columns i) ++ num_field 4 2 ++ num_field 5 1

can_file : (f : DataFile) → FileFits f → CanWriteAll (open_to DATA_FILE) [] (file_fields f)
can_file f is = (
  record { low = omega arith; up = omega arith; room = refl; spells = tt; fits = is.path },
  (
    record { low = omega arith; up = omega arith; room = refl; spells = complements_below f.ids is.ids; fits = complements_fit f.ids is.ids },
    (
      record { low = omega arith; up = omega arith; room = refl; spells = complements_below f.columns is.columns; fits = complements_fit f.columns is.columns },
      (
        record { low = omega arith; up = omega arith; room = refl; spells = omega arith; fits = omega arith },
        (record { low = omega arith; up = omega arith; room = refl; spells = omega arith; fits = omega arith }, tt),
      ),
    ),
  ),
)

file_back : (at : ℕ) (f : DataFile) → FileFits f → length (file_text f) < 2 ^ 64 → SaysFile (record { base = at; bytes = file_text f }) (said_file f)
file_back at f is small =
    let fields = file_fields f in
    let short = all_short fields (omega (arith, small, ap length (file_spelled f))) in
    let path = text_back 1 at fields f.path is.path refl in
    let ids = signeds_back 2 at fields f.ids is.ids refl in
    let columns = signeds_back 3 at fields f.columns is.columns refl in
    let major = small_back 4 at fields 2 (omega arith) refl in
    let minor = small_back 5 at fields 1 (omega arith) refl in
    let says : SaysFile (record { base = at; bytes = spelling_of fields }) (said_file f) = record {
      items = items_placed at fields;
      reads = written_read (open_to DATA_FILE) at fields (can_file f is) short;
      said = sym (λ i. record { file = record { path = path i; ids = ids i; columns = columns i }; major = major i; minor = minor i });
    } in
    subst (λ (bytes : List ℕ). SaysFile (record { base = at; bytes = bytes }) (said_file f)) (sym (file_spelled f)) says

files_back : (messages : List Placed) (fs : List DataFile) → map (λ (p : Placed). p.bytes) messages ≡ map file_text fs → AllByRecursion FileFits fs → AllByRecursion (λ (bytes : List ℕ). length bytes < 2 ^ 64) (map file_text fs)
    → ReadEach SaysFile messages (map said_file fs)
files_back [] [] e fit short = refl
files_back [] (f ∷ fs) e fit short = absurd cc
files_back (p ∷ ps) [] e fit short = absurd cc
files_back (p ∷ ps) (f ∷ fs) e fit short =
    let bytes : p.bytes ≡ file_text f = cc in
    let rest : map (λ (q : Placed). q.bytes) ps ≡ map file_text fs = cc in
    (said_file f, map said_file fs, refl, subst (λ (b : List ℕ). SaysFile (record { base = p.base; bytes = b }) (said_file f)) (sym bytes) (file_back p.base f fit.0 short.0), files_back ps fs rest fit.1 short.1)

-- ---- deletion files

-- a deletion file as its message says it
abbrev pub said_deletion : Deletion → SaidDeletion
said_deletion d = record { kind = 0; deletion = d }

abbrev deletion_fields : Deletion → List WrittenField
deletion_fields d = (1, num 0) ∷ (2, num d.read_version) ∷ (3, num d.id) ∷ (4, num d.rows) ∷ []

-- a deletion file that can be written
pub record DeletionFits (d : Deletion) : Type 0 where
  pub read_version : d.read_version < 2 ^ 64
  pub id : d.id < 2 ^ 64
  pub rows : d.rows < 2 ^ 64

abbrev pub DeletionsFit : Option Deletion → Type 0
DeletionsFit None = Unit {0}
DeletionsFit (Some d) = DeletionFits d

can_deletion : (d : Deletion) → DeletionFits d → CanWriteAll (open_to DELETION_FILE) [] (deletion_fields d)
can_deletion d is = (
  record { low = omega arith; up = omega arith; room = refl; spells = omega arith; fits = tt },
  (
    record { low = omega arith; up = omega arith; room = refl; spells = is.read_version; fits = tt },
    (
      record { low = omega arith; up = omega arith; room = refl; spells = is.id; fits = tt },
      (record { low = omega arith; up = omega arith; room = refl; spells = is.rows; fits = tt }, tt),
    ),
  ),
)

deletion_back : (at : ℕ) (d : Deletion) → DeletionFits d → length (spelling_of (deletion_fields d)) < 2 ^ 64 → SaysDeletion (record { base = at; bytes = spelling_of (deletion_fields d) }) (said_deletion d)
deletion_back at d is small =
    let fields = deletion_fields d in
    let kind = num_back 1 at fields 0 refl in
    let read_version = num_back 2 at fields d.read_version refl in
    let id = num_back 3 at fields d.id refl in
    let rows = num_back 4 at fields d.rows refl in
    record {
      items = items_placed at fields;
      reads = written_read (open_to DELETION_FILE) at fields (can_deletion d is) (all_short fields small);
      said = sym (λ i. record { kind = kind i; deletion = record { read_version = read_version i; id = id i; rows = rows i } });
    }

-- ---- fragments

-- a fragment as its message says it
abbrev pub said_fragment : Fragment → SaidFragment
said_fragment f = record { id = f.id; files = map said_file f.files; deletion = option_map said_deletion f.deletion; rows = f.rows; row_ids = false }

-- the rows, behind the deletion file if there is one
abbrev last_fields : Option Deletion → ℕ → List WrittenField
last_fields None rows = (4, num rows) ∷ []
last_fields (Some d) rows = (3, part (spelling_of (deletion_fields d))) ∷ (4, num rows) ∷ []

abbrev fragment_fields : ℕ → List DataFile → Option Deletion → ℕ → List WrittenField
fragment_fields id files deletion rows = (1, num id) ∷ (2, parts (map file_text files)) ∷ last_fields deletion rows

-- a fragment that can be written
pub record FragmentFits (f : Fragment) : Type 0 where
  pub id : f.id < 2 ^ 64
  pub rows : f.rows < 2 ^ 64
  pub files : AllByRecursion FileFits f.files
  pub deletion : DeletionsFit f.deletion

fragment_spelled : (id : ℕ) (files : List DataFile) (deletion : Option Deletion) (rows : ℕ)
    → num_field 1 id ++ flat_map (λ file. part_item 2 (file_text file)) files ++ deletion_text deletion ++ num_field 4 rows ≡ spelling_of (fragment_fields id files deletion rows)
fragment_spelled id files None rows =
    let last = num_field 4 rows in
    ap (λ (l : List ℕ). l ++ last) (append-nil (num_field 1 id ++ flat_map (λ file. part_item 2 (file_text file)) files))
    ∙ ap (λ (l : List ℕ). num_field 1 id ++ l ++ last) (sym (flat_map-map (λ (bytes : List ℕ). part_item 2 bytes) file_text files))
fragment_spelled id files (Some d) rows = ap (λ (l : List ℕ). num_field 1 id ++ l ++ deletion_text (Some d) ++ num_field 4 rows) (sym (flat_map-map (λ (bytes : List ℕ). part_item 2 bytes) file_text files))

can_last : (deletion : Option Deletion) (rows : ℕ) → rows < 2 ^ 64 → CanWriteAll (open_to DATA_FRAGMENT) (1 ∷ 2 ∷ []) (last_fields deletion rows)
can_last None rows few = (record { low = omega arith; up = omega arith; room = refl; spells = few; fits = tt }, tt)
can_last (Some d) rows few = (record { low = omega arith; up = omega arith; room = refl; spells = tt; fits = tt }, (record { low = omega arith; up = omega arith; room = refl; spells = few; fits = tt }, tt))

can_last_beside : (deletion : Option Deletion) (rows : ℕ) → rows < 2 ^ 64 → CanWriteAll (open_to ROW_IDS) (1 ∷ 2 ∷ []) (last_fields deletion rows)
can_last_beside None rows few = (record { low = omega arith; up = omega arith; room = refl; spells = few; fits = tt }, tt)
can_last_beside (Some d) rows few = (record { low = omega arith; up = omega arith; room = refl; spells = tt; fits = tt }, (record { low = omega arith; up = omega arith; room = refl; spells = few; fits = tt }, tt))

can_fragment : (id : ℕ) (files : List DataFile) (deletion : Option Deletion) (rows : ℕ) → id < 2 ^ 64 → rows < 2 ^ 64 → CanWriteAll (open_to DATA_FRAGMENT) [] (fragment_fields id files deletion rows)
can_fragment id files deletion rows small few = (
  record { low = omega arith; up = omega arith; room = refl; spells = small; fits = tt },
  (record { low = omega arith; up = omega arith; room = refl; spells = tt; fits = tt }, can_last deletion rows few),
)

without_row_ids : (id : ℕ) (files : List DataFile) (deletion : Option Deletion) (rows : ℕ) → id < 2 ^ 64 → rows < 2 ^ 64 → CanWriteAll (open_to ROW_IDS) [] (fragment_fields id files deletion rows)
without_row_ids id files deletion rows small few = (
  record { low = omega arith; up = omega arith; room = refl; spells = small; fits = tt },
  (record { low = omega arith; up = omega arith; room = refl; spells = tt; fits = tt }, can_last_beside deletion rows few),
)

says_fragment : (at id : ℕ) (files : List DataFile) (deletion : Option Deletion) (rows : ℕ) → id < 2 ^ 64 → rows < 2 ^ 64 → AllByRecursion FileFits files → DeletionsFit deletion → AreShort (fragment_fields id files deletion rows)
    → SaysFragment (record { base = at; bytes = spelling_of (fragment_fields id files deletion rows) }) (said_fragment (record { id = id; files = files; deletion = deletion; rows = rows }))
says_fragment at id files None rows small few fit is short =
    let fields = fragment_fields id files None rows in (
      record {
        items = items_placed at fields;
        reads = written_read (open_to DATA_FRAGMENT) at fields (can_fragment id files None rows small few) short;
        said = record {
          id = sym (num_back 1 at fields id refl);
          files = files_back (parts_under 2 (items_placed at fields)) files (parts_back 2 at fields (map file_text files) refl) fit short.1.0;
          deletion = part_absent 3 at fields refl;
          rows = sym (num_back 4 at fields rows refl);
        };
      },
      (items_placed at fields, written_read (open_to ROW_IDS) at fields (without_row_ids id files None rows small few) short),
    )
says_fragment at id files (Some d) rows small few fit is short =
    let fields = fragment_fields id files (Some d) rows in
    let bytes = spelling_of (deletion_fields d) in
    let there = part_back 3 at fields bytes refl in (
      record {
        items = items_placed at fields;
        reads = written_read (open_to DATA_FRAGMENT) at fields (can_fragment id files (Some d) rows small few) short;
        said = record {
          id = sym (num_back 1 at fields id refl);
          files = files_back (parts_under 2 (items_placed at fields)) files (parts_back 2 at fields (map file_text files) refl) fit short.1.0;
          deletion = record { part = record { base = there.0; bytes = bytes }; said = there.1; holds = deletion_back there.0 d is short.1.1.0 };
          rows = sym (num_back 4 at fields rows refl);
        };
      },
      (items_placed at fields, written_read (open_to ROW_IDS) at fields (without_row_ids id files (Some d) rows small few) short),
    )

fragment_back : (at : ℕ) (f : Fragment) → FragmentFits f → length (fragment_text f) < 2 ^ 64 → SaysFragment (record { base = at; bytes = fragment_text f }) (said_fragment f)
fragment_back at f is small =
    let fields = fragment_fields f.id f.files f.deletion f.rows in
    let spelled : fragment_text f ≡ spelling_of fields = fragment_spelled f.id f.files f.deletion f.rows in
    let short = all_short fields (omega (arith, small, ap length spelled)) in
    subst (λ (bytes : List ℕ). SaysFragment (record { base = at; bytes = bytes }) (said_fragment f)) (sym spelled) (says_fragment at f.id f.files f.deletion f.rows is.id is.rows is.files is.deletion short)

fragments_back : (messages : List Placed) (fs : List Fragment) → map (λ (p : Placed). p.bytes) messages ≡ map fragment_text fs → AllByRecursion FragmentFits fs → AllByRecursion (λ (bytes : List ℕ). length bytes < 2 ^ 64) (map fragment_text fs)
    → ReadEach SaysFragment messages (map said_fragment fs)
fragments_back [] [] e fit short = refl
fragments_back [] (f ∷ fs) e fit short = absurd cc
fragments_back (p ∷ ps) [] e fit short = absurd cc
fragments_back (p ∷ ps) (f ∷ fs) e fit short =
    let bytes : p.bytes ≡ fragment_text f = cc in
    let rest : map (λ (q : Placed). q.bytes) ps ≡ map fragment_text fs = cc in
    (said_fragment f, map said_fragment fs, refl, subst (λ (b : List ℕ). SaysFragment (record { base = p.base; bytes = b }) (said_fragment f)) (sym bytes) (fragment_back p.base f fit.0 short.0), fragments_back ps fs rest fit.1 short.1)

-- ---- the message

abbrev greatest_fields : Option ℕ → List WrittenField
greatest_fields None = []
greatest_fields (Some id) = (11, present id) ∷ []

-- what is written behind the fields
abbrev other_fields : List Fragment → ℕ → Bool → Option ℕ → List WrittenField
other_fields fs version deletions greatest = (2, parts (map fragment_text fs)) ∷ (3, num version) ∷ (9, num (flag_number deletions)) ∷ (10, num (flag_number deletions)) ∷ greatest_fields greatest

flag_fits : (b : Bool) → flag_number b < 2 ^ 64
flag_fits true = omega arith
flag_fits false = omega arith

-- the writer's flags are known
pub flag_known : (b : Bool) → unknown_flags (flag_number b) ≡ 0
flag_known true = refl
flag_known false = refl

can_greatest : (greatest : Option ℕ) → IfSome greatest (λ id. id < 2 ^ 32) → CanWriteAll (open_to MANIFEST) (1 ∷ 2 ∷ 3 ∷ 9 ∷ 10 ∷ []) (greatest_fields greatest)
can_greatest None fits = tt
can_greatest (Some id) fits = (record { low = omega arith; up = omega arith; room = refl; spells = omega (arith, fits); fits = fits }, tt)

can_greatest_beside : (greatest : Option ℕ) → IfSome greatest (λ id. id < 2 ^ 32) → CanWriteAll (listing 1) (1 ∷ 2 ∷ 3 ∷ 9 ∷ 10 ∷ []) (greatest_fields greatest)
can_greatest_beside None fits = tt
can_greatest_beside (Some id) fits = (record { low = omega arith; up = omega arith; room = refl; spells = omega (arith, fits); fits = tt }, tt)

can_others : (fs : List Fragment) (version : ℕ) (deletions : Bool) (greatest : Option ℕ) → version < 2 ^ 64 → IfSome greatest (λ id. id < 2 ^ 32) → CanWriteAll (open_to MANIFEST) (1 ∷ []) (other_fields fs version deletions greatest)
can_others fs version deletions greatest few fits = (
  record { low = omega arith; up = omega arith; room = refl; spells = tt; fits = tt },
  (
    record { low = omega arith; up = omega arith; room = refl; spells = few; fits = tt },
    (
      record { low = omega arith; up = omega arith; room = refl; spells = flag_fits deletions; fits = tt },
      (record { low = omega arith; up = omega arith; room = refl; spells = flag_fits deletions; fits = tt }, can_greatest greatest fits),
    ),
  ),
)

can_beside : (fs : List Fragment) (version : ℕ) (deletions : Bool) (greatest : Option ℕ) → version < 2 ^ 64 → IfSome greatest (λ id. id < 2 ^ 32) → CanWriteAll (listing 1) (1 ∷ []) (other_fields fs version deletions greatest)
can_beside fs version deletions greatest few fits = (
  record { low = omega arith; up = omega arith; room = refl; spells = tt; fits = tt },
  (
    record { low = omega arith; up = omega arith; room = refl; spells = few; fits = tt },
    (
      record { low = omega arith; up = omega arith; room = refl; spells = flag_fits deletions; fits = tt },
      (record { low = omega arith; up = omega arith; room = refl; spells = flag_fits deletions; fits = tt }, can_greatest_beside greatest fits),
    ),
  ),
)

no_more_fields : (fs : List Fragment) (version : ℕ) (deletions : Bool) (greatest : Option ℕ) → about 1 (other_fields fs version deletions greatest) ≡ []
no_more_fields fs version deletions None = refl
no_more_fields fs version deletions (Some id) = refl

-- a manifest as its message says it
abbrev pub said_manifest : PlainManifest → SaidManifest
said_manifest m = record { fragments = map said_fragment m.fragments; version = m.version; flags = flag_number (has_deletions m); greatest = m.greatest }

-- a manifest that can be written
pub record ManifestFits (m : PlainManifest) : Type 0 where
  pub fields : IsWritable 1 (fields_from m.fields)
  pub fragments : AllByRecursion FragmentFits m.fragments
  pub version : m.version < 2 ^ 64
  pub greatest : IfSome m.greatest (λ id. id < 2 ^ 32)
  pub short : length (manifest_text m) < 2 ^ 32

says_all : (at : ℕ) (texts : List (List ℕ)) (fs : List Fragment) (version : ℕ) (deletions : Bool) (greatest : Option ℕ) → AllByRecursion FragmentFits fs → version < 2 ^ 64 → IfSome greatest (λ id. id < 2 ^ 32) → AreShort ((1, parts texts) ∷ other_fields fs version deletions greatest)
    → SaysManifest (record { base = at; bytes = spelling_of ((1, parts texts) ∷ other_fields fs version deletions greatest) }) (record { fragments = map said_fragment fs; version = version; flags = flag_number deletions; greatest = greatest })
says_all at texts fs version deletions None fit few fits short =
    let fields : List WrittenField = (1, parts texts) ∷ other_fields fs version deletions None in
    record {
      items = items_placed at fields;
      reads = written_read (open_to MANIFEST) at fields (record { low = omega arith; up = omega arith; room = refl; spells = tt; fits = tt }, can_others fs version deletions None few fits) short;
      said = record {
        fragments = fragments_back (parts_under 2 (items_placed at fields)) fs (parts_back 2 at fields (map fragment_text fs) refl) fit short.1.0;
        version = sym (num_back 3 at fields version refl);
        flags = sym (num_back 9 at fields (flag_number deletions) refl);
        greatest = sym (maybe_small_absent 11 at fields refl);
      };
    }
says_all at texts fs version deletions (Some id) fit few fits short =
    let fields : List WrittenField = (1, parts texts) ∷ other_fields fs version deletions (Some id) in
    record {
      items = items_placed at fields;
      reads = written_read (open_to MANIFEST) at fields (record { low = omega arith; up = omega arith; room = refl; spells = tt; fits = tt }, can_others fs version deletions (Some id) few fits) short;
      said = record {
        fragments = fragments_back (parts_under 2 (items_placed at fields)) fs (parts_back 2 at fields (map fragment_text fs) refl) fit short.1.0;
        version = sym (num_back 3 at fields version refl);
        flags = sym (num_back 9 at fields (flag_number deletions) refl);
        greatest = sym (maybe_small_back 11 at fields id fits refl);
      };
    }

in_turn : (a b c d e : List ℕ) → a ++ (b ++ (c ++ (d ++ e))) ≡ a ++ b ++ c ++ d ++ e
in_turn a b c d e = sym (append_assoc a b (c ++ (d ++ e))) ∙ sym (append_assoc (a ++ b) c (d ++ e)) ∙ sym (append_assoc (a ++ b ++ c) d e)

greatest_last : (a b c d e : List ℕ) (greatest : Option ℕ) → a ++ (b ++ (c ++ (d ++ (e ++ greatest_text greatest)))) ≡ with_spellings (a ++ b ++ c ++ d ++ e) (greatest_fields greatest)
greatest_last a b c d e None = ap (λ (l : List ℕ). a ++ (b ++ (c ++ (d ++ l)))) (append-nil e) ∙ in_turn a b c d e
greatest_last a b c d e (Some id) = in_turn a b c d (e ++ num_item 11 id) ∙ sym (append_assoc (a ++ b ++ c ++ d) e (num_item 11 id))

message_spelled : (m : PlainManifest) → manifest_text m ≡ with_spellings (all_messages 1 (negsuc 0) (fields_from m.fields)) (other_fields m.fragments m.version (has_deletions m) m.greatest)
unfolding manifest_text
message_spelled m =
    let front = all_messages 1 (negsuc 0) (fields_from m.fields) in
    let fragments = sym (flat_map-map (λ (bytes : List ℕ). part_item 2 bytes) fragment_text m.fragments) in
    let version = num_field 3 m.version in
    let reader = num_field 9 (flag_number (has_deletions m)) in
    let writer = num_field 10 (flag_number (has_deletions m)) in
    (λ i. front ++ (fragments i ++ (version ++ (reader ++ (writer ++ greatest_text m.greatest)))))
    ∙ greatest_last front (flat_map (λ (bytes : List ℕ). part_item 2 bytes) (map fragment_text m.fragments)) version reader writer m.greatest

-- ---- the frame

frame_parts : (message : List ℕ) → framed message ≡ to_le_bytes w32 (length message % 2 ^ 32) ++ (message ++ (to_le_bytes w64 0 ++ to_le_bytes w16 0 ++ to_le_bytes w16 2 ++ codes "LANC"))
unfolding framed
frame_parts message =
    let a = to_le_bytes w32 (length message % 2 ^ 32) in
    let place = to_le_bytes w64 0 in
    let major = to_le_bytes w16 0 in
    let minor = to_le_bytes w16 2 in
    let mark = codes "LANC" in
    append_assoc (a ++ message ++ place ++ major) minor mark
    ∙ append_assoc (a ++ message ++ place) major (minor ++ mark)
    ∙ append_assoc (a ++ message) place (major ++ (minor ++ mark))
    ∙ append_assoc a message (place ++ (major ++ (minor ++ mark)))

abbrev ending : List ℕ
ending = to_le_bytes w64 0 ++ to_le_bytes w16 0 ++ to_le_bytes w16 2 ++ codes "LANC"

-- a frame has 20 bytes beside the message
pub framed_long : (message : List ℕ) → length (framed message) ≡ length message + 20
framed_long message =
    let head = to_le_bytes w32 (length message % 2 ^ 32) in
    omega (arith, ap length (frame_parts message), length-append head (message ++ ending), length-append message ending)

pub framed_is : (at : ℕ) (message : List ℕ) → length message < 2 ^ 32 → IsFramed (record { base = at; bytes = framed message }) (record { base = at + 4; bytes = message })
framed_is at message small =
    let bytes = framed message in
    let head = to_le_bytes w32 (length message % 2 ^ 32) in
    let parts = frame_parts message in
    let size = framed_long message in
    let split : bytes ≡ (head ++ message) ++ ending = parts ∙ sym (append_assoc head message ending) in
    let front : length (head ++ message) ≡ length message + 4 = omega (arith, length-append head message) in
    let end : length bytes - 16 ≡ length (head ++ message) = omega (arith, size, front) in
    let ends : drop (length bytes - 16) bytes ≡ ending = ap (λ (n : ℕ). drop n bytes) end ∙ ap (drop (length (head ++ message))) split ∙ drop-append_seam (head ++ message) ending in
    let last : bytes ≡ ((head ++ message) ++ take 12 ending) ++ codes "LANC" = split ∙ sym (append_assoc (head ++ message) (take 12 ending) (codes "LANC")) in
    let before : length ((head ++ message) ++ take 12 ending) ≡ length bytes - 4 = omega (arith, size, front, length-append (head ++ message) (take 12 ending)) in
    let place : place_in bytes ≡ 0 = ap (from_le_bytes w64) ends in
    let low : length message % 2 ^ 32 ≡ length message = omega (arith, small) in
    let fits : length message % 2 ^ 32 < 2 ^ 32 = omega arith in
    let len : length_in bytes ≡ length message = ap (λ (n : ℕ). from_le_bytes w32 (drop n bytes)) place ∙ ap (from_le_bytes w32) parts ∙ from_le_bytes-to_le_bytes_4 (length message % 2 ^ 32) fits ∙ low in
    let base : at + 4 ≡ at + (place_in bytes + 4) = omega (arith, place) in
    let text : message ≡ take (length_in bytes) (drop (place_in bytes + 4) bytes) =
    sym (ap (λ (n : ℕ). take (length_in bytes) (drop (n + 4) bytes)) place ∙ ap (λ (n : ℕ). take n (drop 4 bytes)) len ∙ ap (λ (b : List ℕ). take (length message) (drop 4 b)) parts ∙ take-append_seam message ending) in
    record {
      long = omega (arith, size);
      mark = ap (λ (n : ℕ). drop n bytes) (sym before) ∙ ap (drop (length ((head ++ message) ++ take 12 ending))) last ∙ drop-append_seam ((head ++ message) ++ take 12 ending) (codes "LANC");
      region = omega (arith, size, place, len);
      is = λ i. record { base = base i; bytes = text i };
    }

-- ---- the object

-- a manifest that can be written and keeps to the rules as it is written
pub object_back : (at version : ℕ) (m : PlainManifest) → ManifestFits m → m.version ≡ version → KeepsRules version (shape_of (fields_from m.fields)) (said_manifest m) → map fragment_of (map said_fragment m.fragments) ≡ m.fragments
    → IsManifestObject (record { base = at; bytes = framed (manifest_text m) }) version m
object_back at version m fits numbered keeps same =
    let place = at + 4 in
    let texts = messages_of 1 (fields_from m.fields) fits.fields in
    let deletions = has_deletions m in
    let others = other_fields m.fragments m.version deletions m.greatest in
    let fields : List WrittenField = (1, parts texts.0) ∷ others in
    let whole : spelling_of fields ≡ manifest_text m = ap (λ (b : List ℕ). with_spellings b others) (sym texts.1) ∙ sym (message_spelled m) in
    let short = all_short fields (omega (arith, fits.short, ap length whole)) in
    let says = says_all place texts.0 m.fragments m.version deletions m.greatest fits.fragments fits.version fits.greatest short in
    let trees = written_before place 1 (fields_from m.fields) others fits.fields (no_more_fields m.fragments m.version deletions m.greatest) (can_beside m.fragments m.version deletions m.greatest fits.version fits.greatest) short.1 in
    record {
      message = record { base = place; bytes = manifest_text m };
      framed = framed_is at (manifest_text m) fits.short;
      stands = record {
        whole = said_manifest m;
        said = subst (λ (b : List ℕ). SaysManifest (record { base = place; bytes = b }) (said_manifest m)) whole says;
        fields = subst (λ (b : List ℕ). FieldsOf (record { base = place; bytes = b }) 1 (fields_from m.fields)) (sym (message_spelled m)) trees;
        keeps = keeps;
        fragments = sym same;
        numbered = numbered;
        greatest = refl;
      };
    }

files_again : (fs : List DataFile) → map (λ (s : SaidFile). s.file) (map said_file fs) ≡ fs
files_again [] = refl
files_again (f ∷ fs) = ap (λ (gs : List DataFile). f ∷ gs) (files_again fs)

deletion_again : (d : Option Deletion) → option_map (λ (e : SaidDeletion). e.deletion) (option_map said_deletion d) ≡ d
deletion_again None = refl
deletion_again (Some d) = refl

-- what is said of fragments are they again
pub fragments_again : (fs : List Fragment) → map fragment_of (map said_fragment fs) ≡ fs
fragments_again [] = refl
fragments_again (f ∷ fs) =
    let files = files_again f.files in
    let deletion = deletion_again f.deletion in
    let first : fragment_of (said_fragment f) ≡ f = λ i. record { id = f.id; files = files i; deletion = deletion i; rows = f.rows } in
    λ i. first i ∷ fragments_again fs i
