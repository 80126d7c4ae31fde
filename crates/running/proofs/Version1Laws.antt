-- The statements of this crate at document 01's kinds. Assumes nothing.
use mathlib.Core.Path.{refl}
use Rattle.calculus.specs.Version1.{encryption, signature1}
use Rattle.calculus.proofs.Version1Laws.{laws1}
use Rattle.running.specs.Values.{FreshDecided}
use Rattle.running.specs.Acts.{Tests}
use Rattle.running.specs.Lists.{table, RunsEndWithin}
use Rattle.running.specs.Processes.{StuckCannotMove, ProcessByRules, ProcessesEndWithin, RulesGiveOneAnswer}
use Rattle.running.specs.Demand3.{OneSealEach, CanonicalForms, VisibleByIndex, FreshByIndex, Demand3Holds, AcceptedListsKeepDemand3, ListsRunAsProcesses, ListsAgree, BuffersSuffice}
use Rattle.running.proofs.Rules.{fresh_decided, stuck_cannot_move, process_by_rules, rules_give_one_answer}
use Rattle.running.proofs.Places.{runs_end_within, processes_end_within}
use Rattle.running.proofs.Types.{canonical_forms}
use Rattle.running.proofs.Demand3Laws.{visible_by_index, fresh_by_index, demand_3_holds, accepted_lists_keep_demand_3, lists_run_as_processes, lists_agree, buffers_suffice}

pub one_seal_each1 : OneSealEach signature1
one_seal_each1 encryption encryption e = refl

pub fresh_decided1 : FreshDecided signature1
fresh_decided1 = fresh_decided signature1

pub process_by_rules1 : ProcessByRules signature1
process_by_rules1 = process_by_rules signature1

pub processes_end_within1 : ProcessesEndWithin signature1
processes_end_within1 = processes_end_within signature1

pub runs_end_within1 : (ts : Tests signature1) → RunsEndWithin signature1 (table signature1) ts
runs_end_within1 ts = runs_end_within signature1 (table signature1) ts

pub stuck_cannot_move1 : StuckCannotMove signature1
stuck_cannot_move1 = stuck_cannot_move signature1

pub rules_give_one_answer1 : RulesGiveOneAnswer signature1
rules_give_one_answer1 = rules_give_one_answer signature1

pub canonical_forms1 : CanonicalForms signature1
canonical_forms1 = canonical_forms signature1 laws1

pub visible_by_index1 : VisibleByIndex signature1
visible_by_index1 = visible_by_index signature1

pub fresh_by_index1 : FreshByIndex signature1
fresh_by_index1 = fresh_by_index signature1

pub demand_3_holds1 : Demand3Holds signature1
demand_3_holds1 = demand_3_holds signature1 laws1 one_seal_each1

pub accepted_lists_keep_demand_31 : AcceptedListsKeepDemand3 signature1
accepted_lists_keep_demand_31 = accepted_lists_keep_demand_3 signature1 laws1 one_seal_each1

pub lists_run_as_processes1 : ListsRunAsProcesses signature1
lists_run_as_processes1 = lists_run_as_processes signature1

pub lists_agree1 : ListsAgree signature1
lists_agree1 = lists_agree signature1

pub buffers_suffice1 : BuffersSuffice signature1
buffers_suffice1 = buffers_suffice signature1
