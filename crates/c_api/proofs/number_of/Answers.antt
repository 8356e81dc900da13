-- `c_api::number_of` meets its contract. Assumes nothing.
use Rattle.std.proofs.Common.{rules}
use Rattle.c_api.specs.Memory.{verdict_number}
use Rattle.c_api.proofs.number_of.Goals as goal

pub returns-in-Clear : goal.returns-in-Clear
unfolding verdict_number
returns-in-Clear c = search rules

pub returns-in-Possible : goal.returns-in-Possible
unfolding verdict_number
returns-in-Possible c = search rules
