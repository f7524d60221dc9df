-- What opening the files of a fragment asks, and why they aren't opened.
use Rattle.std.proofs.Common.{◌≡◌, sym, ◌∙◌, ap, ap₂, refl, subst, ℕ, zero, suc, ◌+◌, ◌<◌, ◌≤◌, Bool, true, false, cond, not, List, [], ◌∷◌, ◌++◌, length, map, zero-add, arith}
use Rattle.std.specs.Prelude.{◌&&◌, ◌||◌, All, Contains, Option, Some, None, bytes_eq, slice_get}
use Rattle.std.proofs.lemmas.Bool.{false≢true}
use Rattle.std.proofs.lemmas.List.{get_or-map, length-map, map-append}
use Rattle.std.proofs.lemmas.List.Elements.{All-append, All-cons, All-head, All-nil, All-tail}
use Rattle.std.proofs.lemmas.Option.{none-some, same_Some}
use Rattle.lan_model.specs.declared.tree.Layer.{Layer}
use Rattle.lan_model.specs.declared.tree.Layer.TheVariants as layer
use Rattle.lan_model.specs.Leaves.{IsNarrow, PlainLeaf, leaves_of, leaves_of_members}
use Rattle.lan_model.specs.Plain.{primitive, vector, text, bytes, list, struct, PlainField, field, PlainFields, no_fields, one_field}
use Rattle.lan_model.specs.Table.{depths_of, all_depths}
use Rattle.lan_store.specs.Budget.{Asks, Budget, nothing, plus}
use Rattle.lan_store.specs.Objects.{object}
use Rattle.lan_store.specs.Telling.{Telling}
use Rattle.lan_store.specs.declared.name.Name.{Name}
use Rattle.lan_store.specs.declared.name.Object.{Object}
use Rattle.lan_file.specs.HeadReasons.{HeadStands}
use Rattle.lan_file.specs.Heads.{Pick}
use Rattle.lan_manifest.specs.declared.manifest.DataFile.{DataFile}
use Rattle.lan_manifest.specs.declared.manifest.Fragment.{Fragment}
use Rattle.lan_read.specs.Dealt.{RefusesFiles, file_due, files_due}
use Rattle.lan_read.specs.Grouped.{IsLow, grouped}
use Rattle.lan_read.specs.Opened.{HasRows, IsReadable, IsUsedFile, RefusesOpening, Use, and_use, has_path, head_due, heads_due, is_used, leaves_in, opening_due, paths_used, picks_at, use_of, uses_of}
use Rattle.lan_read.specs.Rows.{data_name}
use Rattle.lan_read.specs.declared.read_fault.Reason.TheVariants as reason
use Rattle.lan_read.specs.declared.read_fault.ReadFault.{ReadFault}
use Rattle.lan_read.specs.declared.read_fault.ReadFault.TheVariants.{Memory, NoDataset, NoVersion, Outside, Store}
use Rattle.lan_read.proofs.OpenedReaders.{use_given}

-- ---- the budget

due_chosen : (all : List Object) (path : List ℕ) (b r : Bool) (pick : Pick) (picks : List Pick) (due : Budget) → due ≡ file_due all path (pick ∷ picks) → file_due all path picks ≡ cond r due nothing → file_due all path (cond b (pick ∷ picks) picks) ≡ cond (b || r) due nothing
due_chosen all path true r pick picks due is later = sym is
due_chosen all path false r pick picks due is later = later

file_used : (all : List Object) (path : List ℕ) (uses : List Use) → file_due all path (picks_at uses path) ≡ cond (is_used uses path) (head_due (object all (data_name path))) nothing
file_used all path [] = refl
file_used all path (u ∷ uses) = due_chosen all path (bytes_eq u.path path) (is_used uses path) u.pick (picks_at uses path) (head_due (object all (data_name path))) refl (file_used all path uses)

none_more : (b : Budget) → plus nothing b ≡ b
none_more b = λ i. record { ranges = zero-add b.ranges i; bytes = zero-add b.bytes i }

due_of_file : (all : List Object) (path : List ℕ) (has is : Bool) (picks : List Pick) (paths : List (List ℕ)) → file_due all path picks ≡ cond is (head_due (object all (data_name path))) nothing →
    plus (file_due all path (cond has [] picks)) (heads_due all paths) ≡ heads_due all (cond (is && not has) (path ∷ paths) paths)
due_of_file all path true true picks paths due = none_more (heads_due all paths)
due_of_file all path true false picks paths due = none_more (heads_due all paths)
due_of_file all path false true picks paths due = ap (λ (b : Budget). plus b (heads_due all paths)) due
due_of_file all path false false picks paths due = ap (λ (b : Budget). plus b (heads_due all paths)) due ∙ none_more (heads_due all paths)

files_used : (all : List Object) (files : List DataFile) (uses : List Use) → files_due all files (grouped files uses) ≡ heads_due all (paths_used files uses)
files_used all [] uses = refl
files_used all (file ∷ files) uses =
    ap (λ (b : Budget). plus (file_due all file.path (cond (has_path files file.path) [] (picks_at uses file.path))) b) (files_used all files uses)
    ∙ due_of_file all file.path (has_path files file.path) (is_used uses file.path) (picks_at uses file.path) (paths_used files uses) (file_used all file.path uses)

-- what is asked of the files is what opening a fragment asks
pub asks_opening : (all : List Object) (fields : List (PlainField ℕ)) (f : Fragment) (groups : List (List Pick)) (s t : Telling) → groups ≡ grouped f.files (uses_of f.files (leaves_in fields)) →
    Asks (files_due all f.files groups) s t → Asks (opening_due all fields f) s t
unfolding opening_due
asks_opening all fields f groups s t is asks =
    subst (λ (b : Budget). Asks b s t) (ap (files_due all f.files) is ∙ files_used all f.files (uses_of f.files (leaves_in fields))) asks

-- ---- why not

some_chosen : (b r : Bool) (pick : Pick) (picks : List Pick) → 0 < length (cond b (pick ∷ picks) picks) → (0 < length picks → r ≡ true) → (b || r) ≡ true
some_chosen true r pick picks some later = refl
some_chosen false r pick picks some later = later some

some_used : (path : List ℕ) (uses : List Use) → 0 < length (picks_at uses path) → is_used uses path ≡ true
some_used path [] some = absurd (omega (arith, some))
some_used path (u ∷ uses) some = some_chosen (bytes_eq u.path path) (is_used uses path) u.pick (picks_at uses path) some (some_used path uses)

-- the file has this group, since it's one of those that are used
abbrev UsedAt : List (List ℕ) → List ℕ → List Pick → List Pick → Type 0
UsedAt paths path chosen picks = Contains paths path × (picks ≡ chosen)

first_used : (has is : Bool) (path : List ℕ) (paths : List (List ℕ)) (chosen picks : List Pick) → cond has [] chosen ≡ picks → 0 < length picks → (0 < length chosen → is ≡ true) → UsedAt (cond (is && not has) (path ∷ paths) paths) path chosen picks
first_used true is path paths chosen picks same some then = absurd (omega (arith, some, ap length same))
first_used false true path paths chosen picks same some then = ((0, omega arith, refl), sym same)
first_used false false path paths chosen picks same some then = absurd (false≢true (then (subst (λ (l : List Pick). 0 < length l) (sym same) some)))

later_used : (b : Bool) (first path : List ℕ) (paths : List (List ℕ)) → Contains paths path → Contains (cond b (first ∷ paths) paths) path
later_used true first path paths (k, below, at) = (suc k, omega (arith, below), at)
later_used false first path paths is = is

used_at : (files : List DataFile) (uses : List Use) (k : ℕ) (file : DataFile) (picks : List Pick) → slice_get files k ≡ Some file → slice_get (grouped files uses) k ≡ Some picks → 0 < length picks → UsedAt (paths_used files uses) file.path (picks_at uses file.path) picks
used_at [] uses k file picks at group some = absurd (none-some file at)
used_at (g ∷ files) uses zero file picks at group some =
    let is : g ≡ file = same_Some g file at in
    subst (λ (f : DataFile). UsedAt (paths_used (g ∷ files) uses) f.path (picks_at uses f.path) picks) is
    (first_used (has_path files g.path) (is_used uses g.path) g.path (paths_used files uses) (picks_at uses g.path) picks (same_Some _ picks group) some (some_used g.path uses))
used_at (g ∷ files) uses (suc k) file picks at group some =
    let (is, same) = used_at files uses k file picks at group some in
    (later_used (is_used uses g.path && not (has_path files g.path)) g.path file.path (paths_used files uses) is, same)

abbrev Uses : List (PlainField ℕ) → Fragment → List Use
Uses fields f = uses_of f.files (leaves_in fields)

-- a group isn't opened
record RefusesGroup (fields : List (PlainField ℕ)) (f : Fragment) (name : Name) (picks : List Pick) : Type 0 where
  file : IsUsedFile f.files fields name
  picks_are : picks ≡ picks_at (Uses fields f) file.path

group_of : (fields : List (PlainField ℕ)) (f : Fragment) (groups : List (List Pick)) (name : Name) (k : ℕ) (file : DataFile) (picks : List Pick) → groups ≡ grouped f.files (Uses fields f) →
    slice_get f.files k ≡ Some file → slice_get groups k ≡ Some picks → name ≡ data_name file.path → 0 < length picks → RefusesGroup fields f name picks
group_of fields f groups name k file picks is at group named some =
    let u = used_at f.files (Uses fields f) k file picks at (subst (λ (gs : List (List Pick)). slice_get gs k ≡ Some picks) is group) some in
    record { file = record { path = file.path; used = u.0; named = named }; picks_are = u.1 }

pub refuses_opening : (all : List Object) (fields : List (PlainField ℕ)) (f : Fragment) (groups : List (List Pick)) (fault : ReadFault) → groups ≡ grouped f.files (uses_of f.files (leaves_in fields)) →
    RefusesFiles all f.files groups f.rows fault → RefusesOpening all fields f fault
refuses_opening all fields f groups (Outside name (reason.File why) place) is r =
    let (named, some, stands) = r.refuses in
    let g = group_of fields f groups name r.number r.file r.picks is r.file_at r.picks_at named some in
    record { file = g.file; is = subst (λ (ps : List Pick). HeadStands ps (object all name) why place) g.picks_are stands }
refuses_opening all fields f groups (Outside name (reason.Rows found stated) place) is r =
    let (named, some, first, same, other, has) = r.refuses in
    let g = group_of fields f groups name r.number r.file r.picks is r.file_at r.picks_at named some in
    (first, same, other, record { file = g.file; is = subst (λ (ps : List Pick). HasRows found ps (object all name)) g.picks_are has })
refuses_opening all fields f groups (Outside name reason.Missing place) is r = absurd r.refuses
refuses_opening all fields f groups (Outside name reason.Size place) is r = absurd r.refuses
refuses_opening all fields f groups (Outside name reason.Short place) is r = absurd r.refuses
refuses_opening all fields f groups (Outside name (reason.Manifest why) place) is r = absurd r.refuses
refuses_opening all fields f groups (Outside name (reason.Page why) place) is r = absurd r.refuses
refuses_opening all fields f groups (Outside name (reason.Join why) place) is r = absurd r.refuses
refuses_opening all fields f groups (Store name) is r = tt
refuses_opening all fields f groups Memory is r = tt
refuses_opening all fields f groups NoDataset is r = absurd r
refuses_opening all fields f groups (NoVersion asked newest) is r = absurd r

-- ---- the layers of columns

abbrev depths_in : List PlainLeaf → List ℕ
depths_in = map (λ (leaf : PlainLeaf). length leaf.layers)

both : (xs ys : List PlainLeaf) (ms ns : List ℕ) → depths_in xs ≡ ms → depths_in ys ≡ ns → depths_in (xs ++ ys) ≡ ms ++ ns
both xs ys ms ns a b = map-append (λ (leaf : PlainLeaf). length leaf.layers) xs ys ∙ ap₂ (λ (m n : List ℕ). m ++ n) a b

mutual
  field_depths : (f : PlainField ℕ) (top n : ℕ) (outer : List Layer) → length outer ≡ n → depths_in (leaves_of f top outer) ≡ depths_of f n
  field_depths (field id name nullable (list item)) top n outer long = field_depths item top (n + 1) (layer.List nullable ∷ outer) (omega (arith, long))
  field_depths (field id name nullable (struct members)) top n outer long = member_depths members nullable 0 top n outer long
  field_depths (field id name nullable (primitive p)) top n outer long = ap (λ (k : ℕ). k ∷ []) (omega (arith, long))
  field_depths (field id name nullable (vector p k)) top n outer long = ap (λ (k : ℕ). k ∷ []) (omega (arith, long))
  field_depths (field id name nullable text) top n outer long = ap (λ (k : ℕ). k ∷ []) (omega (arith, long))
  field_depths (field id name nullable bytes) top n outer long = ap (λ (k : ℕ). k ∷ []) (omega (arith, long))

  member_depths : (fs : PlainFields ℕ) (nullable : Bool) (member top n : ℕ) (outer : List Layer) → length outer ≡ n → depths_in (leaves_of_members fs nullable member top outer) ≡ all_depths fs (n + 1)
  member_depths no_fields nullable member top n outer long = refl
  member_depths (one_field f fs) nullable member top n outer long =
      both (leaves_of f top (layer.Struct nullable member ∷ outer)) (leaves_of_members fs nullable (member + 1) top outer) (depths_of f (n + 1)) (all_depths fs (n + 1))
      (field_depths f top (n + 1) (layer.Struct nullable member ∷ outer) (omega (arith, long))) (member_depths fs nullable (member + 1) top n outer long)

abbrev Low : PlainLeaf → Type 0
Low leaf = length leaf.layers ≤ 16

field_low : (f : PlainField ℕ) → All (λ depth. depth ≤ 16) (depths_of f 0) → All Low (leaves_of f 0 [])
field_low f each k d below =
    let leaves = leaves_of f 0 [] in
    let depth : PlainLeaf → ℕ = λ (leaf : PlainLeaf). length leaf.layers in
    let all : All (λ depth. depth ≤ 16) (depths_in leaves) = subst (All (λ depth. depth ≤ 16)) (sym (field_depths f 0 0 [] refl)) each in
    subst (λ (n : ℕ). n ≤ 16) (get_or-map depth leaves k d (depth d) below) (all k (depth d) (omega (arith, below, length-map leaves depth)))

fields_low : (files : List DataFile) (rows : ℕ) (fields : List (PlainField ℕ)) → All (IsReadable files rows) fields → All Low (leaves_in fields)
fields_low files rows [] readable = All-nil Low
fields_low files rows (f ∷ fields) readable =
    All-append Low (leaves_of f 0 []) (leaves_in fields) (field_low f (All-head (IsReadable files rows) f fields readable).layers) (fields_low files rows fields (All-tail (IsReadable files rows) f fields readable))

abbrev LowUse : Use → Type 0
LowUse used = IsLow used.pick

and_low : (o : Option Use) (uses : List Use) → ((used : Use) → o ≡ Some used → LowUse used) → All LowUse uses → All LowUse (and_use o uses)
and_low None uses here later = later
and_low (Some used) uses here later = All-cons LowUse used uses (here used refl) later

uses_low : (files : List DataFile) (leaves : List PlainLeaf) → All Low leaves → All LowUse (uses_of files leaves)
uses_low files [] low = All-nil LowUse
uses_low files (leaf ∷ leaves) low =
    and_low (use_of files leaf) (uses_of files leaves) (λ used at. subst Low (sym (ap (λ (u : Use). u.pick.leaf) (use_given files leaf used at).1)) (All-head Low leaf leaves low))
    (uses_low files leaves (All-tail Low leaf leaves low))

chosen_low : (b : Bool) (pick : Pick) (picks : List Pick) → IsLow pick → All IsLow picks → All IsLow (cond b (pick ∷ picks) picks)
chosen_low true pick picks here later = All-cons IsLow pick picks here later
chosen_low false pick picks here later = later

picks_low : (uses : List Use) (path : List ℕ) → All LowUse uses → All IsLow (picks_at uses path)
picks_low [] path low = All-nil IsLow
picks_low (u ∷ uses) path low = chosen_low (bytes_eq u.path path) u.pick (picks_at uses path) (All-head LowUse u uses low) (picks_low uses path (All-tail LowUse u uses low))

no_or_low : (b : Bool) (picks : List Pick) → All IsLow picks → All IsLow (cond b [] picks)
no_or_low true picks low = All-nil IsLow
no_or_low false picks low = low

groups_low : (files : List DataFile) (uses : List Use) → All LowUse uses → All (All IsLow) (grouped files uses)
groups_low [] uses low = All-nil (All IsLow)
groups_low (file ∷ files) uses low = All-cons (All IsLow) _ (grouped files uses) (no_or_low (has_path files file.path) (picks_at uses file.path) (picks_low uses file.path low)) (groups_low files uses low)

pub readable_low : (files : List DataFile) (rows : ℕ) (fields : List (PlainField ℕ)) (groups : List (List Pick)) → All (IsReadable files rows) fields → groups ≡ grouped files (uses_of files (leaves_in fields)) → All (All IsLow) groups
readable_low files rows fields groups readable is = subst (All (All IsLow)) (sym is) (groups_low files (uses_of files (leaves_in fields)) (uses_low files (leaves_in fields) (fields_low files rows fields readable)))

-- ---- the numbers of files

pub readable_narrow : (files : List DataFile) (rows : ℕ) (fields : List (PlainField ℕ)) → All (IsReadable files rows) fields → All IsNarrow fields
readable_narrow files rows fields readable k d below = (readable k d below).narrow
