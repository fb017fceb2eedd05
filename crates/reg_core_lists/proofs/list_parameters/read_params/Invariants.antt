use Rattle.std.proofs.Common.{◌≡◌, ◌≤◌, ◌-◌, length}
use Rattle.reg_core_lists.specs.ListParameters.{no_params, params_from}
use Rattle.reg_core_lists.proofs.list_parameters.read_params.Given as goal

abbrev pub invariant-loop : goal.invariant-loop
invariant-loop l = record {
  read : params_from 7 l.query no_params ≡ params_from (7 - l.counter) l.rest l.params;
  within : length l.rest ≤ length l.query;
}
