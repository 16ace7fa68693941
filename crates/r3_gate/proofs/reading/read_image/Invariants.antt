use Rattle.std.proofs.Common.{◌≡◌, ℕ, ◌≤◌, ◌-◌, ◌^◌, min, List, length, take, Some}
use Rattle.r3_desk.specs.Moments.{LeavesImage}
use Rattle.r3_gate.proofs.reading.read_image.Given as goal

abbrev pub invariant-loop-at : goal.invariant-loop-at
invariant-loop-at g l = record {
  some : l.at ≤ length l.bytes.items;
  short : length l.bytes.items ≤ 2 ^ 30;
  long : (n : ℕ) → g.D.Desk.size l.fn.desk ≡ Some n → length l.bytes.items ≡ min n (2 ^ 30);
  taken : (i : List ℕ) → g.D.Desk.image l.fn.desk ≡ Some i → take l.at l.bytes.items ≡ take l.at i;
  image : g.D.Desk.image l.desk ≡ g.D.Desk.image l.fn.desk;
  size : g.D.Desk.size l.desk ≡ g.D.Desk.size l.fn.desk;
  said : g.D.Desk.said l.desk ≡ g.D.Desk.said l.fn.desk;
  asked : g.D.Desk.asked l.desk ≡ g.D.Desk.asked l.fn.desk;
  syncs : g.D.Desk.syncs l.desk ≡ g.D.Desk.syncs l.fn.desk;
  pending : (c : List ℕ) → g.D.Desk.may_leave l.desk c → g.D.Desk.may_leave l.fn.desk c;
  faults : g.D.Desk.disk_faults l.desk ≡ g.D.Desk.disk_faults l.fn.desk;
  say_faults : g.D.Desk.say_faults l.desk ≡ g.D.Desk.say_faults l.fn.desk;
  ask_faults : g.D.Desk.ask_faults l.desk ≡ g.D.Desk.ask_faults l.fn.desk;
  crash : LeavesImage g.D.Desk.moment g.D.Desk.reach g.D.Desk.may_leave g.D.Desk.said g.D.Desk.asked l.fn.desk l.desk (g.D.Desk.may_leave l.fn.desk);
}

abbrev pub decreases-loop-at : goal.decreases-loop-at
decreases-loop-at g l = length l.bytes.items - l.at
