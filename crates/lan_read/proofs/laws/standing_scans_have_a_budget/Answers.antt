use Rattle.lan_read.proofs.OneScanDue.{one_scan_due}
use Rattle.lan_read.proofs.ScanBudgets.{scan_due}
use Rattle.lan_read.proofs.laws.standing_scans_have_a_budget.Goals as goal

pub returns : goal.returns
returns c = record { budget = scan_due; one = one_scan_due }
