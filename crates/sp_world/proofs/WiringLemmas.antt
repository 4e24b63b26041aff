-- Outputs go into the queues one after the other.
use Rattle.std.proofs.Common.{◌≡◌, ◌∙◌, ℕ, zero, suc, ◌≤◌, List, [], ◌∷◌, Some, refl, sym, ap, subst, arith, length, map, drop}
use Rattle.std.specs.Prelude.{Result, Ok, Err, OnErr, slice_get}
use Rattle.std.proofs.lemmas.Option.{none-some, same_Some}
use Rattle.sp_rules.specs.Events as events
use Rattle.sp_rules.specs.Lists.{each}
use Rattle.sp_rules.specs.Worlds.{World, Space, Pipe, number_of, put}
use Rattle.std.specs.Map.{lookup}
use Rattle.std.specs.Str.{bytes_eq}
use Rattle.sp_pipes.specs.Asked.{asked}
use Rattle.sp_pipes.specs.Connections.{ArePipes}
use Rattle.sp_outputs.specs.Notes.{output_of}
use Rattle.sp_outputs.specs.declared.output.Output.{Output}
use Rattle.sp_world.specs.Waitings.{Awaits, IsWired}
use Rattle.sp_world.specs.declared.wiring.Wiring.{Wiring}

drop-at : (row : List Output) (n : ℕ) (o : Output) → slice_get row n ≡ Some o → drop n (map output_of row) ≡ output_of o ∷ drop (suc n) (map output_of row)
drop-at [] n o e = absurd (none-some o e)
drop-at (x ∷ row) zero o e = ap (λ (y : Output). output_of y ∷ map output_of row) (same_Some x o e)
drop-at (x ∷ row) (suc n) o e = drop-at row n o e

pub put-one : (w : World) (writer : ℕ) (row : List Output) (n m : ℕ) (old new : Wiring) (o : Output) → slice_get row n ≡ Some o → m ≡ suc n
    → ((v : World) → IsWired v old → IsWired (put writer v (output_of o)) new)
    → Awaits w writer (drop n (map output_of row)) old → Awaits w writer (drop m (map output_of row)) new
unfolding each
put-one w writer row n m old new o there more step h = record {
  base = put writer h.base (output_of o);
  wired = step h.base h.wired;
  is = h.is ∙ ap (λ (os : List events.Output). each (put writer) os h.base) (drop-at row n o there) ∙ ap (λ (k : ℕ). each (put writer) (drop k (map output_of row)) (put writer h.base (output_of o))) (sym more);
}

drop-past : (row : List Output) (n : ℕ) → length row ≤ n → drop n (map output_of row) ≡ []
drop-past [] zero h = refl
drop-past [] (suc n) h = refl
drop-past (x ∷ row) zero h = absurd (omega (arith, h))
drop-past (x ∷ row) (suc n) h = drop-past row n (omega (arith, h))

pub put-end : (w : World) (writer : ℕ) (row : List Output) (n : ℕ) (wiring : Wiring) → length row ≤ n → Awaits w writer (drop n (map output_of row)) wiring → IsWired w wiring
unfolding each
put-end w writer row n wiring h a = subst (λ (v : World). IsWired v wiring) (sym (a.is ∙ ap (λ (os : List events.Output). each (put writer) os a.base) (drop-past row n h))) a.wired

pub none-left : (w : World) (writer : ℕ) (wiring : Wiring) → Awaits w writer [] wiring → IsWired w wiring
unfolding each
none-left w writer wiring a = subst (λ (v : World). IsWired v wiring) (sym a.is) a.wired

-- ---- what is wired, as a part of it changes

pub wired-pipes : (w v : World) (old new : Wiring) → v.spaces ≡ w.spaces → v.asked ≡ w.asked → new.numbers ≡ old.numbers → new.dials ≡ old.dials → ArePipes v.pipes new.pipes → IsWired w old → IsWired v new
wired-pipes w v old new spaces asks numbers dials pipes h = record {
  numbers = λ peer. ap (λ m. lookup (bytes_eq peer) m.entries) numbers ∙ h.numbers peer ∙ ap (λ (ss : List Space). number_of ss peer) (sym spaces);
  pipes = pipes;
  dials = asks ∙ h.dials ∙ ap asked (sym dials);
}

pub wired-dials : (w v : World) (old new : Wiring) → v.spaces ≡ w.spaces → v.pipes ≡ w.pipes → new.numbers ≡ old.numbers → new.pipes ≡ old.pipes → v.asked ≡ asked new.dials → IsWired w old → IsWired v new
wired-dials w v old new spaces pipes numbers kept asks h = record {
  numbers = λ peer. ap (λ m. lookup (bytes_eq peer) m.entries) numbers ∙ h.numbers peer ∙ ap (λ (ss : List Space). number_of ss peer) (sym spaces);
  pipes = subst (ArePipes v.pipes) (sym kept) (subst (λ (ps : List Pipe). ArePipes ps old.pipes) (sym pipes) h.pipes);
  dials = asks;
}

pub wired-all : (w v : World) (old new : Wiring) → v.spaces ≡ w.spaces → new.numbers ≡ old.numbers → v.asked ≡ asked new.dials → ArePipes v.pipes new.pipes → IsWired w old → IsWired v new
wired-all w v old new spaces numbers asks pipes h = record {
  numbers = λ peer. ap (λ m. lookup (bytes_eq peer) m.entries) numbers ∙ h.numbers peer ∙ ap (λ (ss : List Space). number_of ss peer) (sym spaces);
  pipes = pipes;
  dials = asks;
}

-- connections change, after a space was told of it
pub wired-moved : (w v : World) (old mid new : Wiring) → mid ≡ old → new.numbers ≡ mid.numbers → new.dials ≡ mid.dials → v.spaces ≡ w.spaces → v.asked ≡ w.asked
    → ((pipes : List Pipe) → ArePipes pipes mid.pipes → pipes ≡ w.pipes → ArePipes v.pipes new.pipes) → IsWired w old → IsWired v new
wired-moved w v old mid new same numbers dials spaces asks pipes h =
    wired-all w v old new spaces (numbers ∙ ap (λ (x : Wiring). x.numbers) same) (asks ∙ h.dials ∙ sym (ap asked (dials ∙ ap (λ (x : Wiring). x.dials) same)))
    (pipes w.pipes (subst (λ (x : Wiring). ArePipes w.pipes x.pipes) (sym same) h.pipes) refl) h

-- a dial is taken away, after a space was told of it
pub wired-dialled : (w v : World) (old mid new : Wiring) → mid ≡ old → new.numbers ≡ mid.numbers → new.pipes ≡ mid.pipes → v.spaces ≡ w.spaces → v.pipes ≡ w.pipes
    → ((asks : List (ℕ × ℕ)) → asks ≡ asked mid.dials → asks ≡ w.asked → v.asked ≡ asked new.dials) → IsWired w old → IsWired v new
wired-dialled w v old mid new same numbers pipes spaces lines dials h =
    wired-all w v old new spaces (numbers ∙ ap (λ (x : Wiring). x.numbers) same) (dials w.asked (h.dials ∙ sym (ap (λ (x : Wiring). asked x.dials) same)) refl)
    (subst (λ (ps : List Pipe). ArePipes ps new.pipes) (sym lines)
    (subst (ArePipes w.pipes) (sym pipes) (subst (λ (x : Wiring). ArePipes w.pipes x.pipes) (sym same) h.pipes))) h

pub on-err : {T E P Q : Type 0} (r : Result T E) → (P → Q) → OnErr r P → OnErr r Q
on-err (Ok x) f h = tt
on-err (Err e) f h = f h

pub all-err : {T E Q : Type 0} (r : Result T E) → Q → OnErr r Q
all-err (Ok x) q = tt
all-err (Err e) q = q
