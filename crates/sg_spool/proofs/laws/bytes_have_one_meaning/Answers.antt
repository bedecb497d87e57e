use Rattle.sg_spool.proofs.Damages.{no_damage, one_damage}
use Rattle.sg_spool.proofs.Unique.{list_unique}
use Rattle.sg_spool.proofs.Fresh.{fresh_in}
use Rattle.sg_spool.proofs.laws.bytes_have_one_meaning.Goals as goal

pub returns-clause-one : goal.returns-clause-one
returns-clause-one c = λ es fs bytes one two. list_unique es fs bytes one two

pub returns-clause-whole : goal.returns-clause-whole
returns-clause-whole c = λ es at bytes is damaged. no_damage es at bytes is damaged

pub returns-clause-place : goal.returns-clause-place
returns-clause-place c = λ at other bytes one two. one_damage at other bytes one two

pub returns-clause-fresh : goal.returns-clause-fresh
returns-clause-fresh c = fresh_in
