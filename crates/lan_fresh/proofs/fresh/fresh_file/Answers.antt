use Rattle.std.proofs.Common.{◌∙◌, ap}
use Rattle.lan_fresh.specs.Fresh.{above, greatest_of, numbers_of}
use Rattle.lan_fresh.proofs.Files.{fresh_of_listing}
use Rattle.lan_fresh.proofs.fresh.fresh_file.Goals as goal

pub returns-clause-fresh : goal.returns-clause-fresh
returns-clause-fresh g c = λ all told.
    c.above_files.ensures.fresh ∙ ap (λ names. above (greatest_of (numbers_of names)) 1) c.as_slice.ensures ∙ fresh_of_listing all c.list.new.into (c.in_ok-list.ensures.answer all told)
