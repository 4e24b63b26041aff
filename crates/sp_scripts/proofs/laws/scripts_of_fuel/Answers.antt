use Rattle.sp_scripts.proofs.FuelPlays
use Rattle.sp_scripts.proofs.laws.scripts_of_fuel.Goals as goal

pub returns : goal.returns
returns c = record { one_space = FuelPlays.one_space; two_spaces = FuelPlays.two_spaces; fuel_of_five_roots = FuelPlays.fuel_of_five_roots; two_tasks_on_one_counter = FuelPlays.two_tasks_on_one_counter; two_waiting_calls_in_order = FuelPlays.two_waiting_calls_in_order; recursion_at_home = FuelPlays.recursion_at_home; spin = FuelPlays.spin; zero_lent = FuelPlays.zero_lent; third_space_short_1 = FuelPlays.third_space_short_1; third_space_short_4 = FuelPlays.third_space_short_4; a_thousand_units = FuelPlays.a_thousand_units }
