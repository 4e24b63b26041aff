use Rattle.std.proofs.Common.{◌≡◌, List, map, ap, ◌∙◌, rules}
use Rattle.sp_requests.specs.Asking.{asked_of}
use Rattle.sp_requests.specs.declared.asked.Asked.{Asked}
use Rattle.sp_requests.proofs.requests.Requests.copy.Goals as goal

pub returns : goal.returns
returns c =
    let items : c.in_ok-copy_waiting.field-0.items ≡ c.args.self.now.waiting.items = search rules in record {
      copied = λ conn rows sent was. record {
        on = was.on;
        answered = was.answered;
        named = was.named;
        waiting = ap (λ (items : List Asked). map asked_of items) items ∙ was.waiting;
        calls = c.in_ok-copy.ensures.copied (λ call copy same. same) _ was.calls;
        groups = c.in_ok-copy-2.ensures.copied (λ group copy same. same) _ was.groups;
        were_sent = was.were_sent;
        frames = was.frames;
        called = was.called;
        told_of = was.told_of;
        call_fits = was.call_fits;
        sequence_fits = was.sequence_fits;
        few = was.few;
      };
    }
