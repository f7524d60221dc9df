use Rattle.lance_cli.proofs.opening.listed_versions.Goals as goal

pub returns-in-Err-clause-none : goal.returns-in-Err-clause-none
returns-in-Err-clause-none g c = λ all told. c.naming.ensures.listing all (c.in-Err.ensures.none all told)
