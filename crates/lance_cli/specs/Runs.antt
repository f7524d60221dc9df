-- What a run of a list of commands does: its clauses, said of the chain and of what is behind it.
use Rattle.std.specs.Prelude.{◌≡◌, ◌⊎◌, ℕ, ◌^◌, ◌<◌, ◌≤◌, ⊤, Bool, true, false, cond, ◌&&◌, nat_lt, List, [], ◌∷◌, ◌++◌, length, take, map, IsTrue, IsSomeAnd, Option, Some, None, Result, Ok, Err, OnOk, IfErr}
use Rattle.std.specs.Option.{ForSome}
use Rattle.lan_model.specs.Dataset.{Dataset}
use Rattle.lan_model.specs.Table.{Table}
use Rattle.lan_store.specs.Objects.{and_then}
use Rattle.lan_store.specs.Streams.{and_then_bytes, TookOver, TookFront}
use Rattle.lan_store.specs.Telling.{Telling}
use Rattle.lan_store.specs.declared.name.Object.{Object}
use Rattle.lan_read.specs.Tables.{StandsFor, AgreesWith}
use Rattle.lance_cli.specs.Chain.{Link, Chain, outcomes_of, puts_of, changes, IsFront}
use Rattle.lance_cli.specs.Commands.{Asked, asked_of, reads_input, prints_rows, Request}
use Rattle.lance_cli.specs.Replies.{Told, refused, Mode, generate, said_by, text_by, texts, answer_to, left_after, replied, closing, Tells}
use Rattle.lance_cli.specs.Served.{Served}
use Rattle.lance_cli.specs.Words.{ByWords}
use Rattle.lance_cli.specs.Steps.{Step, Trail, requests_in, put_in, said_in}
use Rattle.lance_cli.specs.declared.fault.Fault.{Fault}
use Rattle.lance_cli.specs.declared.fault.Fault.TheVariants as fault

-- the words, the objects where they are told, and the input where it is told, all as they were before
pub record Entry : Type 0 where
  pub words : List (List ℕ)
  pub objects : Option (List Object)
  pub input : Option (List ℕ)

-- the words ask for a command that reads the input
abbrev pub wants_input : Option Asked → Bool
wants_input (Some asked) = reads_input asked
wants_input None = false

-- what is heard of the input: a command that reads none hears nothing, whatever is told
abbrev pub heard : Entry → Option (List ℕ)
heard e = cond (wants_input (asked_of e.words)) e.input (Some [])

-- an input that is read is told, and there is too much of it
abbrev pub IsLong : Entry → Type 0
IsLong e = IsTrue (wants_input (asked_of e.words)) × IsSomeAnd e.input (λ input. 2 ^ 28 < length input)

-- the same where it is told
abbrev pub IsTooLong : Entry → Type 0
IsTooLong e = IsTrue (wants_input (asked_of e.words)) × ForSome e.input (λ input. 2 ^ 28 < length input)

-- ---- what stood

-- the objects grew by whole ones, and each version that stood stands for the same table
pub record Keeps (old new : List Object) : Type 0 where
  pub grew : (more : List Object) × (new ≡ old ++ more)
  pub stands : (version : ℕ) (t : Table) → StandsFor old version t → StandsFor new version t

-- a store that tells its objects still tells them
abbrev pub Kept : Option (List Object) → Option (List Object) → Type 0
Kept before now = ForSome before (λ old. IsSomeAnd now (Keeps old))

-- ---- where each version that is read stands

-- the dataset is that of the objects, and these are the links of what the words and the input tell
pub record IsRun (words : List (List ℕ)) (input : List ℕ) (objects : List Object) (mode : Mode) (d : Dataset) (links : List Link) : Type 0 where
  pub agrees : AgreesWith objects d
  pub told : List Told
  pub tells : Tells words input mode (map (λ t. t.request) told)
  pub chain : Chain mode objects d told links

-- P of each dataset that the objects stand for, and of the chain on it
abbrev pub OnChain : Entry → (List ℕ → Mode → List Object → Dataset → List Link → Type 0) → Type 0
OnChain e P = ForSome e.objects (λ old. ForSome (heard e) (λ input. (mode : Mode) (d : Dataset) (links : List Link) → IsRun e.words input old mode d links → P input mode old d links))

-- all commands are done: the sink got the text of the replies, the objects have all puts more, and the dataset after all accepted changes is theirs
pub record IsDone (mode : Mode) (old : List Object) (d : Dataset) (links : List Link) (now : Option (List Object)) (held holds : Option (List ℕ)) : Type 0 where
  pub answer : answer_to mode (outcomes_of links) ≡ Ok tt
  pub prints : holds ≡ and_then_bytes held (replied mode d (outcomes_of links)).text
  pub puts : now ≡ Some (old ++ puts_of links)
  pub agrees : AgreesWith (old ++ puts_of links) (left_after d (outcomes_of links))
  pub stands : IsFront old d links (length (changes links)) (old ++ puts_of links)

-- an Ok does all that is replied
abbrev pub Done : Entry → Option (List Object) → Option (List ℕ) → Option (List ℕ) → Result Unit Fault → Type 0
Done e now held holds result = OnChain e (λ input mode old d links. OnOk result (IsDone mode old d links now held holds))

-- how many of its puts, and how many bytes of its text, a link leaves where the run stops at it
abbrev pub IsPart : Link → ℕ → ℕ → Fault → Type 0
IsPart at put printed fault.WriteFault = put ≡ length at.puts
IsPart at put printed (fault.StoreFault name) = (put ≤ length at.puts) × ((printed ≡ 0) ⊎ IsTrue (prints_rows at.told.request.asked))
IsPart at put printed fault.Memory = ((put ≡ 0) ⊎ (put < length at.puts)) × ((printed ≡ 0) ⊎ IsTrue (prints_rows at.told.request.asked))
IsPart at put printed f = (put ≡ 0) × (printed ≡ 0) × (at.outcome ≡ refused f)

-- how many changes stand where a run stopped at a link: those before it, and after a failure to print, or maybe to put, its own
abbrev pub Stand : List Link → Link → Fault → ℕ → Type 0
Stand before at fault.WriteFault m = m ≡ length (changes (before ++ at ∷ []))
Stand before at (fault.StoreFault name) m = (m ≡ length (changes before)) ⊎ (m ≡ length (changes (before ++ at ∷ [])))
Stand before at f m = m ≡ length (changes before)

-- so many of a link's puts stand behind those of the links before it
abbrev pub put_at : List Object → List Link → Link → ℕ → List Object
put_at old before at put = (old ++ puts_of before) ++ take put at.puts

-- the run stopped at this link: those before it are done, and of its own puts and text there are fronts
pub record StopsAt (mode : Mode) (old : List Object) (before : List Link) (at : Link) (f : Fault) (now : Option (List Object)) (held holds : Option (List ℕ)) : Type 0 where
  pub put : ℕ
  pub printed : ℕ
  pub within : printed ≤ length (text_by mode (said_by at.outcome))
  pub part : IsPart at put printed f
  pub objects : now ≡ Some (put_at old before at put)
  pub sink : holds ≡ and_then_bytes held (texts mode (outcomes_of before) ++ take printed (text_by mode (said_by at.outcome)))

-- and what stands there
pub record StandsStopped (mode : Mode) (old : List Object) (d : Dataset) (links before : List Link) (at : Link) (f : Fault) (now : Option (List Object)) (held holds : Option (List ℕ)) : Type 0 where
  pub stops : StopsAt mode old before at f now held holds
  pub m : ℕ
  pub so_many : Stand before at f m
  pub stands : IsFront old d links m (put_at old before at stops.put)

-- nothing is put or printed
pub record IsUntouched (before now : Option (List Object)) (held holds : Option (List ℕ)) : Type 0 where
  pub objects : now ≡ before
  pub sink : holds ≡ held

-- what may be answered before the first command has its turn
abbrev pub IsBeforeAll : Fault → Type 0
IsBeforeAll fault.InputTooLong = ⊤
IsBeforeAll fault.ReadFault = ⊤
IsBeforeAll fault.Memory = ⊤
IsBeforeAll f = ⊥

-- a failure: of the store, the source or the sink, or want of memory
abbrev pub IsFailure : Result Unit Fault → Type 0
IsFailure (Err (fault.StoreFault name)) = ⊤
IsFailure (Err fault.ReadFault) = ⊤
IsFailure (Err fault.WriteFault) = ⊤
IsFailure (Err fault.Memory) = ⊤
IsFailure result = ⊥

-- all is done but the closing words, of which the sink got a front
pub record StopsBehind (mode : Mode) (old : List Object) (d : Dataset) (links : List Link) (now : Option (List Object)) (held holds : Option (List ℕ)) : Type 0 where
  pub printed : ℕ
  pub objects : now ≡ Some (old ++ puts_of links)
  pub sink : holds ≡ and_then_bytes held (texts mode (outcomes_of links) ++ take printed (closing mode (left_after d (outcomes_of links))))
  pub stands : IsFront old d links (length (changes links)) (old ++ puts_of links)

-- where a run stopped that didn't come to its end: before all, at a link, or at the closing words of `generate`
abbrev pub StoppedIn : Mode → List Object → Dataset → List Link → Option (List Object) → Option (List ℕ) → Option (List ℕ) → Fault → Type 0
StoppedIn mode old d links now held holds f = (IsBeforeAll f × IsUntouched (Some old) now held holds)
    ⊎ (((before : List Link) × (at : Link) × (behind : List Link) × (links ≡ before ++ at ∷ behind) × StandsStopped mode old d links before at f now held holds)
    ⊎ ((mode ≡ generate) × IsFailure (Err f) × StopsBehind mode old d links now held holds))

-- a refusal leaves the links before one as they are replied, and a part of that one
abbrev pub Stops : Entry → Option (List Object) → Option (List ℕ) → Option (List ℕ) → Result Unit Fault → Type 0
Stops e now held holds result = OnChain e (λ input mode old d links. IfErr result (λ f. StoppedIn mode old d links now held holds f))

-- at each moment the objects stand for the dataset after so many of the accepted changes, and have a front of the puts more
abbrev pub Moments : Entry → Option (List Object) → Type 0
Moments e now = ForSome now (λ new. OnChain e (λ input mode old d links. (k : ℕ) → length old ≤ k → k ≤ length new → (m : ℕ) × IsFront old d links m (take k new)))

-- input that is too long is refused before all that is replied
abbrev pub expected : Entry → List ℕ → Result Unit Fault → Result Unit Fault
expected e input answer = cond (wants_input (asked_of e.words) && nat_lt (2 ^ 28) (length input)) (Err fault.InputTooLong) answer

-- the answer is that of the replies, or a failure
abbrev pub Decided : Entry → Result Unit Fault → Type 0
Decided e result = OnChain e (λ input mode old d links. (result ≡ expected e input (answer_to mode (outcomes_of links))) ⊎ IsFailure result)

-- ---- on any folder

-- the words and the input tell these commands, of which some had their turn and some are left
pub record Went (words : List (List ℕ)) (input : List ℕ) (objects : Option (List Object)) (mode : Mode) (steps : List Step) (left : List Request) : Type 0 where
  pub tells : Tells words input mode (requests_in steps ++ left)
  pub trail : Trail mode objects steps

-- P of the objects and of the bytes behind the steps that had their turn, and of the commands that are left; the input is that which is told
pub record OnTrail (e : Entry) (held : Option (List ℕ)) (P : Mode → Option (List Object) → Option (List ℕ) → List Request → Type 0) : Type 0 where
  pub input : List ℕ
  pub is_heard : ForSome (heard e) (λ all. input ≡ all)
  pub short : length input ≤ 2 ^ 28
  pub mode : Mode
  pub steps : List Step
  pub left : List Request
  pub went : Went e.words input e.objects mode steps left
  pub holds : P mode (and_then e.objects (put_in steps)) (and_then_bytes held (said_in mode steps)) left

-- all had their turn
abbrev pub NoneLeft : Option (List Object) → Option (List ℕ) → Mode → Option (List Object) → Option (List ℕ) → List Request → Type 0
NoneLeft now holds mode objects held left = (left ≡ []) × (now ≡ objects) × (holds ≡ held)

-- the run stopped at the command that was next: why, and what it leaves of its own
abbrev pub NextRefused : Option (List Object) → Option (List ℕ) → Fault → Mode → Option (List Object) → Option (List ℕ) → List Request → Type 0
NextRefused now holds f mode objects held [] = ⊥
NextRefused now holds f mode objects held (r ∷ left) = Served (record { before = objects; now = now; held = held; holds = holds }) r (Err f)

-- all had their turn; or why none has, or why the next is refused
abbrev pub Ran : Entry → Option (List Object) → Option (List ℕ) → Option (List ℕ) → Result Unit Fault → Type 0
Ran e now held holds (Ok _) = ForSome e.objects (λ old. OnTrail e held (NoneLeft now holds)) × ((asked : Asked) × (asked_of e.words ≡ Some asked)) × (IsLong e → ⊥)
Ran e now held holds (Err fault.Usage) = (asked_of e.words ≡ None) × IsUntouched e.objects now held holds
Ran e now held holds (Err fault.InputTooLong) = IsTooLong e × IsUntouched e.objects now held holds
Ran e now held holds (Err fault.ReadFault) = IsTrue (wants_input (asked_of e.words)) × IsUntouched e.objects now held holds
Ran e now held holds (Err fault.Memory) = IsUntouched e.objects now held holds ⊎ OnTrail e held (NextRefused now holds fault.Memory)
Ran e now held holds (Err f) = OnTrail e held (NextRefused now holds f)

-- ---- the order of refusals

-- what the words and the input decide before any call of the store
abbrev pub IsEarly : Entry → Fault → Type 0
IsEarly e fault.Usage = asked_of e.words ≡ None
IsEarly e fault.InputTooLong = IsLong e
IsEarly e f = (asked : Asked) × (asked_of e.words ≡ Some asked) × ByWords asked 0 f

-- where such a refusal stands, it is the answer, or a failure of the source or want of memory, and the store isn't asked for anything
abbrev pub Ordered : Entry → Telling → Telling → Result Unit Fault → Type 0
Ordered e before now result = (f : Fault) → IsEarly e f → (now ≡ before) × ((result ≡ Err f) ⊎ ((result ≡ Err fault.ReadFault) ⊎ (result ≡ Err fault.Memory)))

-- ---- the input

-- the input was read to its end; of one that was too long more was taken than it may have, and before the source failed, or memory ran short, a front
abbrev pub TakenToEnd : Option (List ℕ) → Option (List ℕ) → Result Unit Fault → Type 0
TakenToEnd input left (Err fault.InputTooLong) = ForSome input (λ all. TookOver (2 ^ 28) all left)
TakenToEnd input left (Err fault.ReadFault) = ForSome input (λ _. TookFront input left)
TakenToEnd input left (Err fault.Memory) = ForSome input (λ _. TookFront input left)
TakenToEnd input left result = ForSome input (λ _. left ≡ Some [])

-- a command that reads input takes it to its end, and no other takes a byte
abbrev pub TakenBy : Bool → Option (List ℕ) → Option (List ℕ) → Result Unit Fault → Type 0
TakenBy true input left result = TakenToEnd input left result
TakenBy false input left result = left ≡ input
