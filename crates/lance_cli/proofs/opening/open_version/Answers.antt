use Rattle.lance_cli.proofs.opening.open_version.Goals as goal

pub returns-in-Err-clause-opens : goal.returns-in-Err-clause-opens
returns-in-Err-clause-opens g c = λ all told. c.naming.ensures.opens all (c.in-Err.ensures.opens all told)
