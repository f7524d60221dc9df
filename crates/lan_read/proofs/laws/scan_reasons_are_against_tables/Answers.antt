use Rattle.lan_read.proofs.ScanReasons.{no_scan_fragment, no_scan_table, no_scan_value}
use Rattle.lan_read.proofs.laws.scan_reasons_are_against_tables.Goals as goal

pub returns : goal.returns
returns c = record { opening = no_scan_fragment; value = no_scan_value; table = no_scan_table }
