-- What follows of the bytes that are held where a step of reading a head is refused.
use Rattle.std.proofs.Common.{◌≡◌, subst, ℕ, ◌+◌, ◌-◌, ◌<◌, ◌≤◌, List, length, arith}
use Rattle.std.specs.Prelude.{Option, Some, None, IsSomeAnd, Err}
use Rattle.lan_store.specs.Budget.{Budget, Asks}
use Rattle.lan_store.specs.Looked.{Looked}
use Rattle.lan_store.specs.Telling.{Telling}
use Rattle.lan_store.specs.declared.name.Name.{Name}
use Rattle.lan_file.specs.declared.head.ColumnPick.{ColumnPick}
use Rattle.lan_file.specs.declared.tables.Tables.{Tables}
use Rattle.lan_file.specs.declared.head_fault.HeadFault.{HeadFault}
use Rattle.lan_file.specs.declared.head_fault.HeadFault.TheVariants.{Outside, Store, Memory}
use Rattle.lan_file.specs.declared.head_fault.HeadReason.TheVariants.{Missing, Short, Magic, Version, Region}
use Rattle.lan_file.specs.Tables.{IsSizeOf, IsPieceOf, JudgesFooter, JudgesTables}
use Rattle.lan_file.specs.Heads.{Pick}
use Rattle.lan_file.specs.HeadReasons.{HeadBreaks, head_fault_failure}
use Rattle.lan_file.specs.Parts.{part, tail_of, IsSmall}
use Rattle.lan_file.proofs.Opened.{is_tail}

-- a part that lies within the object is lacked only where nothing is held, or for a fault that isn't the object's
pub piece_breaks : (picks : List Pick) (held : Option (List ℕ)) (at len : ℕ) (e : HeadFault) → IsSomeAnd held (λ bytes. at + len ≤ length bytes) → IsPieceOf held at len (Err e) → HeadBreaks picks held e
piece_breaks picks held at len (Outside Missing place) within lacks = lacks
piece_breaks picks held at len (Outside Short place) within lacks = absurd (never held within lacks) where
  never : (held : Option (List ℕ)) → IsSomeAnd held (λ bytes. at + len ≤ length bytes) → IsSomeAnd held (λ bytes. length bytes < at + len) → ⊥
  never None within lacks = within
  never (Some bytes) within lacks = absurd (omega (arith, within, lacks))
piece_breaks picks held at len Store within lacks = tt
piece_breaks picks held at len Memory within lacks = tt
piece_breaks picks held at len (Outside other place) within lacks = absurd lacks

-- a fault's reason stands where it does for the bytes that are held
pub both_head_break : (picks : List Pick) (held : Option (List ℕ)) (e : HeadFault) (P Q : List ℕ → Type 0) → IsSomeAnd held P → IsSomeAnd held Q → ((bytes : List ℕ) → P bytes → Q bytes → HeadBreaks picks (Some bytes) e) → HeadBreaks picks held e
both_head_break picks None e P Q p q f = absurd p
both_head_break picks (Some bytes) e P Q p q f = f bytes p q

judged : (picks : List Pick) (bytes : List ℕ) (e : HeadFault) → IsSmall bytes → 40 ≤ length bytes → JudgesFooter (length bytes) (tail_of bytes) (Err e) → HeadBreaks picks (Some bytes) e
judged picks bytes (Outside Magic place) small long j = (small, long, j.0, j.1)
judged picks bytes (Outside (Version major minor) place) small long j = (small, long, j.0, j.1, j.2, j.3, j.4)
judged picks bytes (Outside Region place) small long j = (small, record { long = long; mark = j.0; major = j.1; minor = j.2 }, λ h. j.3 h.tables, j.4)
judged picks bytes e small long j = absurd j

pub footer_err : (picks : List Pick) (bytes tail : List ℕ) (size : ℕ) (e : HeadFault) → IsSizeOf bytes size → 40 ≤ size → tail ≡ part bytes (size - 40) 40 → JudgesFooter size tail (Err e) → HeadBreaks picks (Some bytes) e
footer_err picks bytes tail size e is long read j =
    let P : ℕ → Type 0 = λ n. JudgesFooter n tail (Err e) in
    let Q : List ℕ → Type 0 = λ l. JudgesFooter (length bytes) l (Err e) in
    judged picks bytes e is.0 (omega (arith, is.1, long)) (subst Q (is_tail bytes tail size is long read) (subst P is.1 j))

-- a footer that is refused is no failure of the store
pub footer_judged : (name : Name) (size : ℕ) (tail : List ℕ) (fault : HeadFault) (most : Budget) (s t : Telling) → JudgesFooter size tail (Err fault) → Looked None most s t → Looked (head_fault_failure name fault) most s t
footer_judged name size tail (Outside why place) most s t judged looked = looked
footer_judged name size tail Store most s t judged looked = absurd judged
footer_judged name size tail Memory most s t judged looked = absurd judged

-- nor are parts that aren't there
pub survey_judged : (name : Name) (t : Tables) (picks : List ColumnPick) (fault : HeadFault) (most : Budget) (s u : Telling) → JudgesTables t picks (Err fault) → Looked None most s u → Looked (head_fault_failure name fault) most s u
survey_judged name t picks (Outside why place) most s u judged looked = looked
survey_judged name t picks Store most s u judged looked = absurd judged
survey_judged name t picks Memory most s u judged looked = absurd judged

-- a call that looks at no more than this, too
pub looked_asks : (failure : Option Name) (a b : Budget) (s u : Telling) → Looked failure a s u → Asks b s u → Looked failure b s u
looked_asks failure a b s u looked asks = record { kept = looked.kept; fails = looked.fails; asks = asks; clashes = looked.clashes }
