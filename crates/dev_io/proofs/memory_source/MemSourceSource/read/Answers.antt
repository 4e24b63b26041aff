use Rattle.std.proofs.Common.{◌≡◌, ◌+◌, ◌<◌, ℕ, List, [], ◌++◌, length, take, drop, min, sym, ◌∙◌, ap, arith, length-drop}
use Rattle.std.proofs.lemmas.List.{take-append-drop, drop-drop}
use Rattle.std.proofs.Math.ListN.{drop_of_length-le}
use Rattle.dev_io.specs.Devices.{Supply}
use Rattle.dev_io.proofs.memory_source.MemSourceSource.read.Goals as goal

-- what is read next, and what is left then, are what was left before
read_and_left : (n position : ℕ) (source : List ℕ) → take n (drop position source) ++ drop (position + n) source ≡ drop position source
read_and_left n position source =
    ap (λ rest. take n (drop position source) ++ rest) (sym (drop-drop n position source)) ∙ take-append-drop n (drop position source)

-- a read of nothing into a buffer with room is the end
at_end : (n position step room : ℕ) (source : List ℕ) → n ≡ min step (min (length (drop position source)) room) → 0 < step → 0 < room
    → n ≡ 0 → drop (position + n) source ≡ []
at_end n position step room source count some_step some_room none =
    drop_of_length-le source (omega (arith, length-drop position source))

pub returns-clause-bytes : goal.returns-clause-bytes
returns-clause-bytes c =
    let before = read_and_left c.copy_front-count.result c.self.inside.position c.self.inside.bytes.items in
    (cc (ap (λ (s : Supply). s.bytes) c.self.view_is), λ none room. at_end _ _ c.self.inside.step _ _ (cc) (omega arith) room none)
