use Rattle.client_requests.proofs.requests.Requests.forget.Goals as goal

pub returns : goal.returns
returns c =
    rw (← c.self.view_is)
    (record {
      joining = c.still_joining-self-inside.result;
      not_joining = c.still_joining-self-inside.ensures;
      asked = c.still_asked-self-inside.result;
      not_asked = c.still_asked-self-inside.ensures;
      state = cc;
    })
