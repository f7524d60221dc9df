-- The chain of told commands: step by step the objects, what they show, the outcome, the puts, and the dataset after it.
use Rattle.std.specs.Prelude.{◌≡◌, ℕ, ◌+◌, ◌≤◌, Bool, true, false, ◌&&◌, MatchBool, List, [], ◌∷◌, ◌++◌, length, take, map, filter, flat_map, Some}
use Rattle.lan_model.specs.Dataset.{Dataset}
use Rattle.lan_store.specs.declared.name.Object.{Object}
use Rattle.lan_read.specs.Tables.{AgreesWith}
use Rattle.lance_cli.specs.Commands.{Request, is_change}
use Rattle.lance_cli.specs.Puts.{Puts, Shows}
use Rattle.lance_cli.specs.Replies.{Told, Outcome, refused, done, reply, Mode, said_by, goes_on, left_by, left_after}

-- one command of a run: as it is told, what is replied to it, and the objects that it puts
pub record Link : Type 0 where
  pub told : Told
  pub outcome : Outcome
  pub puts : List Object

-- a refusal puts nothing
abbrev pub PutsBy : List Object → Request → Outcome → List Object → Type 0
PutsBy objects r (refused f) puts = puts ≡ []
PutsBy objects r (done text later) puts = Puts objects r puts

-- the link is of its command on these objects, which stand for this dataset
pub record IsLink (objects : List Object) (d : Dataset) (link : Link) : Type 0 where
  pub shows : Shows objects link.told.request link.told.shown
  pub replied : reply d link.told ≡ Some link.outcome
  pub puts : PutsBy objects link.told.request link.outcome link.puts

-- told commands in turn, each on the objects and the dataset that those before it leave, up to the first that ends the list
abbrev pub Chain : Mode → List Object → Dataset → List Told → List Link → Type 0
Chain mode objects d [] links = links ≡ []
Chain mode objects d (told ∷ more) [] = ⊥
Chain mode objects d (told ∷ more) (link ∷ links) = (link.told ≡ told) × IsLink objects d link
    × MatchBool (goes_on mode (said_by link.outcome)) (Chain mode (objects ++ link.puts) (left_by d link.outcome) more links) (links ≡ [])

abbrev pub outcomes_of : List Link → List Outcome
outcomes_of links = map (λ link. link.outcome) links

abbrev pub puts_of : List Link → List Object
puts_of links = flat_map (λ link. link.puts) links

abbrev pub is_done : Outcome → Bool
is_done (refused f) = false
is_done (done text later) = true

-- the accepted changes
abbrev pub changes : List Link → List Link
changes links = filter (λ link. is_change link.told.request.asked && is_done link.outcome) links

-- the dataset after the first m accepted changes
abbrev pub after_changes : Dataset → List Link → ℕ → Dataset
after_changes d links m = left_after d (outcomes_of (take m (changes links)))

-- the objects stand for the dataset after the first m accepted changes, which lists m versions more, and have a front of the puts more
pub record IsFront (old : List Object) (d : Dataset) (links : List Link) (m : ℕ) (part : List Object) : Type 0 where
  pub within : m ≤ length (changes links)
  pub agrees : AgreesWith part (after_changes d links m)
  pub listed : length (after_changes d links m).listed ≡ length d.listed + m
  pub puts : (k : ℕ) × (k ≤ length (puts_of links)) × (part ≡ old ++ take k (puts_of links))
