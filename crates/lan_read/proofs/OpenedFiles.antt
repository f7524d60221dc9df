-- Opening data files, one after another.
use Rattle.std.proofs.Common.{◌≡◌, sym, ◌∙◌, ap, ap₂, refl, subst, ℕ, ◌+◌, ◌*◌, ◌<◌, ◌≤◌, List, [], ◌∷◌, ◌++◌, length, map, take, drop, arith}
use Rattle.std.specs.Prelude.{All, Some, slice_get}
use Rattle.std.specs.List.{AllZip}
use Rattle.std.proofs.lemmas.List.{length-append, length-map, map-append, map_push, take_all}
use Rattle.std.proofs.lemmas.List.Elements.{All-head, All-tail}
use Rattle.lan_page.specs.ColumnCursors.{PlainCursor}
use Rattle.lan_store.specs.Budget.{Asks, Budget, IsWithin, Spends, plus, ranges}
use Rattle.lan_store.specs.Telling.{Telling}
use Rattle.lan_store.specs.declared.name.Object.{Object}
use Rattle.lan_store.proofs.LawTerms.{spends_step, spends_then}
use Rattle.lan_file.specs.Heads.{Pick, picks_of}
use Rattle.lan_file.specs.declared.head.ColumnPick.{ColumnPick}
use Rattle.lan_manifest.specs.declared.manifest.DataFile.{DataFile}
use Rattle.lan_read.specs.Dealt.{AreOpened, RefusesFile, RefusesFiles, file_due, files_due}
use Rattle.lan_read.specs.Grouped.{IsLow}
use Rattle.lan_read.specs.declared.read_fault.ReadFault.{ReadFault}
use Rattle.lan_read.specs.declared.read_fault.ReadFault.TheVariants.{Memory, NoDataset, NoVersion, Outside, Store}
use Rattle.lan_read.proofs.Grouping.{dropped, taken}

opened_more : (P : List ℕ → Pick → PlainCursor → Type 0) (files : List DataFile) (groups : List (List Pick)) (opened : List (List PlainCursor)) (file : DataFile) (picks : List Pick) (cursors : List PlainCursor) →
    AreOpened P files groups opened → AllZip (P file.path) picks cursors → AreOpened P (files ++ file ∷ []) (groups ++ picks ∷ []) (opened ++ cursors ∷ [])
opened_more P [] [] [] file picks cursors are here = (here, tt)
opened_more P [] [] (cs ∷ opened) file picks cursors are here = absurd are
opened_more P [] (g ∷ groups) opened file picks cursors are here = absurd are
opened_more P (f ∷ files) [] opened file picks cursors are here = absurd are
opened_more P (f ∷ files) (g ∷ groups) [] file picks cursors are here = absurd are
opened_more P (f ∷ files) (g ∷ groups) (cs ∷ opened) file picks cursors are here = (are.0, opened_more P files groups opened file picks cursors are.1 here)

-- one more file is opened
pub opened_step : (P : List ℕ → Pick → PlainCursor → Type 0) (files : List DataFile) (yielded : List (List ColumnPick)) (opened new : List (List PlainCursor)) (file : DataFile) (picks : List ColumnPick) (cursors : List PlainCursor) →
    slice_get files (length opened) ≡ Some file → new ≡ opened ++ cursors ∷ [] → AreOpened P (take (length opened) files) (map picks_of yielded) opened → AllZip (P file.path) (picks_of picks) cursors →
    AreOpened P (take (length new) files) (map picks_of (yielded ++ picks ∷ [])) new
opened_step P files yielded opened new file picks cursors at is are here =
    let front = take (length opened) files in
    let Are : List DataFile → List (List Pick) → Type 0 = λ (fs : List DataFile) (gs : List (List Pick)). AreOpened P fs gs (opened ++ cursors ∷ []) in
    let more : Are (front ++ file ∷ []) (map picks_of yielded ++ picks_of picks ∷ []) = opened_more P front (map picks_of yielded) opened file (picks_of picks) cursors are here in
    let one : Are (take (length opened + 1) files) (map picks_of (yielded ++ picks ∷ [])) =
    subst (λ (fs : List DataFile). Are fs (map picks_of (yielded ++ picks ∷ []))) (sym (taken files (length opened) file at)) (subst (Are (front ++ file ∷ [])) (sym (map_push picks_of yielded picks)) more)
    in
    let long : length opened + 1 ≡ length (opened ++ cursors ∷ []) = omega (arith, length-append opened (cursors ∷ [])) in
    subst (λ (os : List (List PlainCursor)). AreOpened P (take (length os) files) (map picks_of (yielded ++ picks ∷ [])) os) (sym is) (subst (λ (n : ℕ). Are (take n files) (map picks_of (yielded ++ picks ∷ []))) long one)

pub opened_all : (P : List ℕ → Pick → PlainCursor → Type 0) (files : List DataFile) (yielded picks : List (List ColumnPick)) (opened : List (List PlainCursor)) → length files ≤ length opened → yielded ≡ picks →
    AreOpened P (take (length opened) files) (map picks_of yielded) opened → AreOpened P files (map picks_of picks) opened
opened_all P files yielded picks opened long is are =
    subst (λ (ps : List (List ColumnPick)). AreOpened P files (map picks_of ps) opened) is (subst (λ (fs : List DataFile). AreOpened P fs (map picks_of yielded) opened) (take_all (length opened) files long) are)

-- ---- what is asked

pub file_spends : (all : List Object) (files : List DataFile) (n m : ℕ) (file : DataFile) (items rest : List (List ColumnPick)) (picks : List ColumnPick) (whole : Budget) (s t u : Telling) → slice_get files n ≡ Some file → items ≡ picks ∷ rest → m ≡ n + 1 →
    Spends whole (files_due all (drop n files) (map picks_of items)) s t → Asks (file_due all file.path (picks_of picks)) t u → Spends whole (files_due all (drop m files) (map picks_of rest)) s u
file_spends all files n m file items rest picks whole s t u at is next before asks =
    let later : Budget = files_due all (drop (n + 1) files) (map picks_of rest) in
    let mine : Budget = file_due all file.path (picks_of picks) in
    let now : files_due all (drop n files) (map picks_of items) ≡ plus mine later = ap₂ (λ (fs : List DataFile) (gs : List (List ColumnPick)). files_due all fs (map picks_of gs)) (dropped files n file at) is in
    let step : Spends (plus mine later) later t u = spends_step (plus mine later) later mine t u asks (record { ranges = omega arith; bytes = omega arith }) in
    subst (λ (k : ℕ). Spends whole (files_due all (drop k files) (map picks_of rest)) s u) (sym next) (spends_then whole (plus mine later) later s t u (subst (λ (b : Budget). Spends whole b s t) now before) step)

pub three_more : (n m : ℕ) → m ≡ n + 1 → IsWithin (plus (ranges (3 * n)) (ranges 3)) (ranges (3 * m))
three_more n m is = record { ranges = omega (arith, is); bytes = omega (arith, is) }

pub three_within : (n m : ℕ) → n < m → IsWithin (plus (ranges (3 * n)) (ranges 3)) (ranges (3 * m))
three_within n m below = record { ranges = omega (arith, below); bytes = omega (arith, below) }

pub three_each : (n m : ℕ) → n ≤ m → IsWithin (ranges (3 * n)) (ranges (3 * m))
three_each n m within = record { ranges = omega (arith, within); bytes = omega (arith, within) }

-- ---- why not

pub at_behind : {X : Type 0} (xs : List X) (y : X) (ys : List X) → slice_get (xs ++ y ∷ ys) (length xs) ≡ Some y
at_behind {X} [] y ys = refl
at_behind {X} (x ∷ xs) y ys = at_behind xs y ys

pub refuses_files : (all : List Object) (files : List DataFile) (yielded items rest picks : List (List ColumnPick)) (file : DataFile) (mine : List ColumnPick) (rows n : ℕ) (fault : ReadFault) → slice_get files n ≡ Some file → n ≡ length yielded →
    items ≡ mine ∷ rest → yielded ++ items ≡ picks → RefusesFile all file.path (picks_of mine) rows fault → RefusesFiles all files (map picks_of picks) rows fault
refuses_files all files yielded items rest picks file mine rows n (Outside name why place) at long is are r =
    let group : slice_get (map picks_of picks) n ≡ Some (picks_of mine) =
    ap (λ (l : List (List ColumnPick)). slice_get (map picks_of l) n) (sym are ∙ ap (λ (l : List (List ColumnPick)). yielded ++ l) is)
    ∙ ap (λ (gs : List (List Pick)). slice_get gs n) (map-append picks_of yielded (mine ∷ rest))
    ∙ ap (slice_get (map picks_of yielded ++ picks_of mine ∷ map picks_of rest)) (long ∙ sym (length-map yielded picks_of))
    ∙ at_behind (map picks_of yielded) (picks_of mine) (map picks_of rest)
    in
    record { number = n; file = file; file_at = at; picks = picks_of mine; picks_at = group; refuses = r }
refuses_files all files yielded items rest picks file mine rows n (Store name) at long is are r = tt
refuses_files all files yielded items rest picks file mine rows n Memory at long is are r = tt
refuses_files all files yielded items rest picks file mine rows n NoDataset at long is are r = absurd r
refuses_files all files yielded items rest picks file mine rows n (NoVersion asked newest) at long is are r = absurd r

-- ---- the picks

pub low_first : (items rest : List (List ColumnPick)) (picks : List ColumnPick) → items ≡ picks ∷ rest → All (All IsLow) (map picks_of items) → All IsLow (picks_of picks)
low_first items rest picks is low = All-head (All IsLow) (picks_of picks) (map picks_of rest) (subst (λ (ps : List (List ColumnPick)). All (All IsLow) (map picks_of ps)) is low)

pub low_later : (items rest : List (List ColumnPick)) (picks : List ColumnPick) → items ≡ picks ∷ rest → All (All IsLow) (map picks_of items) → All (All IsLow) (map picks_of rest)
low_later items rest picks is low = All-tail (All IsLow) (picks_of picks) (map picks_of rest) (subst (λ (ps : List (List ColumnPick)). All (All IsLow) (map picks_of ps)) is low)
