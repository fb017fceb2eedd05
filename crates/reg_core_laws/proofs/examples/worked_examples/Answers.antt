-- Each example by computing it.
use Rattle.std.proofs.Common.{refl}
use Rattle.reg_core_laws.proofs.Worked.{computed}
use Rattle.reg_core_laws.proofs.examples.worked_examples.Goals as goal

pub returns : goal.returns
returns c = record {
  a_new_register_is_empty = computed _ _ refl refl;
  the_longest_validity = computed _ _ refl refl;
  a_second_register_is_the_same = computed _ _ refl refl;
  not_after_is_the_last_good_second = computed _ _ refl refl;
  time_moves_the_counts = computed _ _ refl refl;
  the_deadline_is_in_time = computed _ _ refl refl;
  a_second_later_is_late = computed _ _ refl refl;
  each_crl_lists_a_revocation = computed _ _ refl refl;
  the_last_listing_is_past_the_end = computed _ _ refl refl;
  a_late_crl_lists_once = computed _ _ refl refl;
  one_revocation_of_a_serial_number = computed _ _ refl refl;
  the_next_crl_is_due = computed _ _ refl refl;
  the_next_crl_is_due_by_next_update = computed _ _ refl refl;
  each_ground_has_its_limit_and_reason = computed _ _ refl refl;
  a_full_table_takes_no_more = computed _ _ refl refl;
  a_declined_request_stays_so = computed _ _ refl refl;
  each_refusal_has_its_case = computed _ _ refl refl;
  the_clock_ends = computed _ _ refl refl;
  the_schedule_goes_by_not_before = computed _ _ refl refl;
}
