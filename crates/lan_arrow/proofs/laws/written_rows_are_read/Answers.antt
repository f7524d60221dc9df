use Rattle.std.proofs.Common.{ℕ}
use Rattle.lan_arrow.proofs.ReadBack.{read_back}
use Rattle.lan_arrow.proofs.laws.written_rows_are_read.Goals as goal

pub returns : goal.returns
returns c = λ (physical : ℕ) rows up some small below. read_back physical rows up some small below
