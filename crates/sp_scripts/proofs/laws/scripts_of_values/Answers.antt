use Rattle.sp_scripts.proofs.ValuesPlays
use Rattle.sp_scripts.proofs.laws.scripts_of_values.Goals as goal

pub returns : goal.returns
returns c = record { booleans = ValuesPlays.booleans; nulls = ValuesPlays.nulls; plain_objects = ValuesPlays.plain_objects; endings = ValuesPlays.endings; result_cannot_cross = ValuesPlays.result_cannot_cross; names = ValuesPlays.names; lookup_unbound = ValuesPlays.lookup_unbound; field_overwritten = ValuesPlays.field_overwritten; arrays = ValuesPlays.arrays }
