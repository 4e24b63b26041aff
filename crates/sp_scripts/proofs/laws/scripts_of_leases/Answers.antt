use Rattle.sp_scripts.proofs.LeasesPlays
use Rattle.sp_scripts.proofs.laws.scripts_of_leases.Goals as goal

pub returns : goal.returns
returns c = record { withdrawn_object = LeasesPlays.withdrawn_object; clean_not_repeated_with_holder = LeasesPlays.clean_not_repeated_with_holder; clean_repeated_until_not_yet = LeasesPlays.clean_repeated_until_not_yet; last_holder_of_two = LeasesPlays.last_holder_of_two; late_dirty_after_strong_clean = LeasesPlays.late_dirty_after_strong_clean; lookup_needs_ack_of_lease = LeasesPlays.lookup_needs_ack_of_lease; moment_below = LeasesPlays.moment_below; renewal_failed_again = LeasesPlays.renewal_failed_again; weak_clean_forgets = LeasesPlays.weak_clean_forgets; overtaken_lease = LeasesPlays.overtaken_lease; lease_of_an_overtaken_dirty = LeasesPlays.lease_of_an_overtaken_dirty; parked_call_is_a_reason = LeasesPlays.parked_call_is_a_reason; kept_far = LeasesPlays.kept_far; churn_cleans = LeasesPlays.churn_cleans; cycle_stays = LeasesPlays.cycle_stays; cell_made_afar = LeasesPlays.cell_made_afar }
