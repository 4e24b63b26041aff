use Rattle.std.proofs.Common.{◌≡◌, ◌++◌, ◌∷◌, [], List, ℕ, ap, ◌∙◌}
use Rattle.std.specs.Map.{remove_entry}
use Rattle.std.specs.Str.{bytes_eq}
use Rattle.lru.specs.LruCache.{LruCache, demoted}
use Rattle.dgc_list.specs.declared.remembered.Remembered.{Remembered}
use Rattle.dgc_list.proofs.ClientsLemmas.{demoted-put, distinct-put_last, sets-put_last}
use Rattle.dgc_list.proofs.many.Many.put_last.Goals as goal

pub invariant_of-self : goal.invariant_of-self
invariant_of-self c =
    let known = rw (← c.self.view_is) at c.requires.known in
    let after : c.demote.new.self.entries ≡ remove_entry (bytes_eq c.args.client.now) c.self.inside.remembered.entries ++ (c.args.client.now, c.args.remembered) ∷ [] =
    ap (λ (l : LruCache (List ℕ) Remembered). l.entries) (c.demote.ensures.entries) ∙ ap (λ (l : LruCache (List ℕ) Remembered). demoted (bytes_eq c.args.client.now) l.entries) (c.in-Ok.ensures.entries)
    ∙ demoted-put c.args.client.now c.args.remembered c.self.inside.remembered known in
    let cap = ap (λ (l : LruCache (List ℕ) Remembered). l.cap) (c.demote.ensures.entries) ∙ ap (λ (l : LruCache (List ℕ) Remembered). l.cap) (c.in-Ok.ensures.entries) in
    (rw after (distinct-put_last c.args.client.now c.args.remembered c.self.inside.remembered.entries c.self.invariant.0), cap ∙ c.self.invariant.1)

pub returns : goal.returns
returns c =
    let known = rw (← c.self.view_is) at c.requires.known in
    let none = rw (← c.self.view_is) at c.requires.none in
    let after : c.demote.new.self.entries ≡ remove_entry (bytes_eq c.args.client.now) c.self.inside.remembered.entries ++ (c.args.client.now, c.args.remembered) ∷ [] =
    ap (λ (l : LruCache (List ℕ) Remembered). l.entries) (c.demote.ensures.entries) ∙ ap (λ (l : LruCache (List ℕ) Remembered). demoted (bytes_eq c.args.client.now) l.entries) (c.in-Ok.ensures.entries)
    ∙ demoted-put c.args.client.now c.args.remembered c.self.inside.remembered known in
    rw (after, ← c.self.view_is) (sets-put_last c.args.client.now c.args.remembered c.self.inside.remembered.entries c.self.invariant.0 none c.requires.set)
