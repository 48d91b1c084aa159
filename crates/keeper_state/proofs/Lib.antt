mod Finding
mod Standing
