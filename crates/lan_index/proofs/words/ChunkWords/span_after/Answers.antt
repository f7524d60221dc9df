use Rattle.std.proofs.Common.{◌≡◌, ◌+◌, ◌<◌, ℕ, length, ap, subst, arith}
use Rattle.lan_model.specs.declared.range.Span.{Span}
use Rattle.lan_levels.specs.Chunks.{small_chunks, chunk_of, AreChunks}
use Rattle.lan_index.specs.Runs.{Chunked}
use Rattle.lan_index.proofs.ChunkLemmas.{Following, following}
use Rattle.lan_index.proofs.words.ChunkWords.span_after.Goals as goal

behind : (inside now : Chunked) (n : ℕ) (span : Span) → inside ≡ now → AreChunks small_chunks inside.slots inside.bytes inside.words → n + 1 < length now.words → span ≡ chunk_of now.words now.slots n → Following now.words now.slots now.bytes n span
behind inside now n span e h less s =
    let there : AreChunks small_chunks now.slots now.bytes now.words = subst (λ (k : Chunked). AreChunks small_chunks k.slots k.bytes k.words) e h in
    following small_chunks now.words now.slots now.bytes n span there less s

span_is : (at len first slots at2 len2 first2 slots2 : ℕ) → at ≡ at2 → len ≡ len2 → first ≡ first2 → slots ≡ slots2 → ◌≡◌ {A = Span} (record { at = at; len = len; first = first; slots = slots }) (record { at = at2; len = len2; first = first2; slots = slots2 })
span_is at len first slots at2 len2 first2 slots2 a l f s = cc

pub overflow_add-first : goal.overflow_add-first
overflow_add-first c =
    let f = behind _ c.args.self.now c.args.chunk c.args.span c.self.view_is c.self.invariant c.requires.within c.requires.span in
    let all = ap (λ (k : Chunked). k.slots) c.self.view_is in
    let first = f.first_is in
    let left = f.there.slots_left in
    omega arith

pub overflow_add-at : goal.overflow_add-at
overflow_add-at c =
    let f = behind _ c.args.self.now c.args.chunk c.args.span c.self.view_is c.self.invariant c.requires.within c.requires.span in
    let all = ap (λ (k : Chunked). k.bytes) c.self.view_is in
    let at = f.at_is in
    let fit = f.there.bytes_fit in
    omega arith

pub slots_at-requires-clause-first : goal.slots_at-requires-clause-first
slots_at-requires-clause-first c = (behind _ c.args.self.now c.args.chunk c.args.span c.self.view_is c.self.invariant c.requires.within c.requires.span).first_is

pub returns-clause-value : goal.returns-clause-value
returns-clause-value c =
    let f = behind _ c.args.self.now c.args.chunk c.args.span c.self.view_is c.self.invariant c.requires.within c.requires.span in
    span_is _ _ _ _ _ _ _ _ f.at_is c.bytes_at.ensures f.first_is c.slots_at.ensures.value

pub returns-clause-within : goal.returns-clause-within
returns-clause-within c =
    let f = behind _ c.args.self.now c.args.chunk c.args.span c.self.view_is c.self.invariant c.requires.within c.requires.span in
    let at = f.at_is in
    let fit = f.there.bytes_fit in
    omega (arith, c.bytes_at.ensures)
