-- What is known of an object's bytes once its tail was read.
use Rattle.std.proofs.Common.{◌≡◌, sym, ◌∙◌, ap, subst, ℕ, ◌-◌, ◌≤◌, List, length, take, drop, arith}
use Rattle.std.proofs.lemmas.List.{take_rest}
use Rattle.lan_file.specs.declared.tail.Footer.{Footer}
use Rattle.lan_file.specs.Tables.{IsSizeOf}
use Rattle.lan_file.specs.Opening.{IsTail, IsOpened}
use Rattle.lan_file.specs.Parts.{part, tail_of}

-- the last 40 bytes
pub is_tail : (bytes tail : List ℕ) (size : ℕ) → IsSizeOf bytes size → 40 ≤ size → tail ≡ part bytes (size - 40) 40 → tail ≡ tail_of bytes
is_tail bytes tail size is long read =
    let rest : length bytes - (size - 40) ≡ 40 = omega (arith, is.1, long) in
    read ∙ ap (λ (n : ℕ). take n (drop (size - 40) bytes)) (sym rest) ∙ take_rest bytes (size - 40) ∙ ap (λ (n : ℕ). drop (n - 40) bytes) is.1

pub judged_ok : (bytes tail : List ℕ) (size : ℕ) (f : Footer) → IsSizeOf bytes size → 40 ≤ size → tail ≡ part bytes (size - 40) 40 → IsTail size tail f → IsOpened bytes (record { size = size; footer = f })
judged_ok bytes tail size f is long read t =
    let P : ℕ → Type 0 = λ n. IsTail n tail f in
    let Q : List ℕ → Type 0 = λ l. IsTail (length bytes) l f in
    let u : IsTail (length bytes) (tail_of bytes) f = subst Q (is_tail bytes tail size is long read) (subst P is.1 t) in
    record {
      small = is.0;
      size = is.1;
      file = record { long = omega (arith, is.1, long); mark = u.mark; major = u.major; minor = u.minor };
      footer = u.read;
      tables = u.tables;
    }
