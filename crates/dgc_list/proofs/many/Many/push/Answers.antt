use Rattle.std.proofs.Common.{◌≡◌, ◌+◌, ◌≤◌, ◌++◌, ◌∷◌, [], List, ℕ, length, ap, ◌∙◌, arith}
use Rattle.std.specs.Str.{bytes_eq}
use Rattle.lru.specs.LruCache.{LruCache, demoted}
use Rattle.dgc_list.specs.declared.remembered.Remembered.{Remembered}
use Rattle.dgc_list.proofs.ClientsLemmas.{demoted-new, distinct-pushed, lookup-none_from, put-new}
use Rattle.dgc_list.proofs.many.Many.push.Goals as goal

pub invariant_of-self-2 : goal.invariant_of-self-2
invariant_of-self-2 c =
    let client = c.args.client.now in
    let cache = c.self.inside.remembered in
    let unknown = rw (← c.self.view_is) at c.requires in
    let cap = c.self.invariant.1 in
    let few : length cache.entries + 1 ≤ cache.cap = omega (arith, c.len-count.ensures.len, c.len-count.ensures.fits, cap) in
    let after : c.demote.new.self.entries ≡ cache.entries ++ (client, c.args.remembered) ∷ [] =
    ap (λ (l : LruCache (List ℕ) Remembered). l.entries) c.demote.ensures.entries
    ∙ ap (λ (l : LruCache (List ℕ) Remembered). demoted (bytes_eq client) l.entries) c.in_ok-put.ensures.entries
    ∙ ap (demoted (bytes_eq client)) (put-new client c.args.remembered cache (lookup-none_from _ unknown) few)
    ∙ demoted-new client c.args.remembered cache.entries in (
      rw after (distinct-pushed client c.args.remembered cache.entries c.self.invariant.0 unknown),
      ap (λ (l : LruCache (List ℕ) Remembered). l.cap) c.demote.ensures.entries ∙ ap (λ (l : LruCache (List ℕ) Remembered). l.cap) c.in_ok-put.ensures.entries ∙ cap,
    )

pub returns-clause-pushed : goal.returns-clause-pushed
returns-clause-pushed c =
    let client = c.args.client.now in
    let cache = c.self.inside.remembered in
    let unknown = rw (← c.self.view_is) at c.requires in
    let cap = c.self.invariant.1 in
    let few : length cache.entries + 1 ≤ cache.cap = omega (arith, c.len-count.ensures.len, c.len-count.ensures.fits, cap) in
    rw (← c.self.view_is) (ap (λ (l : LruCache (List ℕ) Remembered). l.entries) c.demote.ensures.entries
    ∙ ap (λ (l : LruCache (List ℕ) Remembered). demoted (bytes_eq client) l.entries) c.in_ok-put.ensures.entries
    ∙ ap (demoted (bytes_eq client)) (put-new client c.args.remembered cache (lookup-none_from _ unknown) few)
    ∙ demoted-new client c.args.remembered cache.entries)
