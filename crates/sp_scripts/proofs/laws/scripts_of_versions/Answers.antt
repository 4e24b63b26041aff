use Rattle.sp_scripts.proofs.VersionsPlays
use Rattle.sp_scripts.proofs.laws.scripts_of_versions.Goals as goal

pub returns : goal.returns
returns c = record { both_of_version_2 = VersionsPlays.both_of_version_2; owner_of_version_1 = VersionsPlays.owner_of_version_1; client_of_version_1 = VersionsPlays.client_of_version_1; third_of_version_2 = VersionsPlays.third_of_version_2 }
